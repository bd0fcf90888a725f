-- What holds in every reached state of the ticket kind, and that layout, ask, push and leave keep it.
use Rattle.std.specs.Prelude.{◌≡◌, ℕ, suc, ◌<◌, ◌≤◌, true, ◌⊎◌, length, Some, None, ◌==◌, ◌≢◌, nat_eq, refl}
use Rattle.std.proofs.lemmas.Option.{same_Some}
use Rattle.std.proofs.Common.{inl, inr, sym, ap, subst, ◌∙◌, arith}
use Rattle.std.proofs.lemmas.List.{get_or-set_same, get_or-set_other, length-set, length-replicate, get_or-replicate}
use Rattle.std.proofs.lemmas.Bool.{eqb-true, eq-eqb, ne_eqb, cases_eq, cases_lt}
use Rattle.bank.specs.Claims.{passes, at, claim}
use Rattle.bank.specs.Locks.{fitting, word_at, record_of, with_record}
use Rattle.bank.specs.declared.memory.Claim.{Claim}
use Rattle.bank.specs.declared.memory.Sizes.{Sizes}
use Rattle.bank.proofs.Admission.{Sized, sized}
use Rattle.bank.proofs.Askers.{at_no_other}
use Rattle.bank.proofs.Claims.{some_none, get_or_replicate_none, write_cases, claim_cases}
use Rattle.bank.proofs.Counts.{count, one, count_le, count_set, count_same, count_none}
use Rattle.ticket.specs.declared.Turn.{Turn}
use Rattle.ticket.specs.declared.Turn.TheVariants.{Inside}
use Rattle.ticket.specs.Word.{next_of, served_of, word_of, after, past, outstanding}
use Rattle.ticket.specs.State.{State, sessions_of, bins_of, nodes_for, turn, ticket_of, entered, ticket_of-turn, entered-turn}
use Rattle.ticket.specs.Calls.{laid_out, drawn, served_next}
use Rattle.ticket.specs.Tickets.{forward, served_word, outstanding_word, word_below, next_below, served_below, after_below, past_same, past_zero, past_more, past_less, forward_past, forward_after, forward_apart}

-- the next ticket of a bin, the one served, and how many are drawn and not yet done
abbrev pub next_at : State → ℕ → ℕ
next_at s b = next_of (word_at s b)

abbrev pub served_at : State → ℕ → ℕ
served_at s b = served_of (word_at s b)

abbrev pub outstanding_at : State → ℕ → ℕ
outstanding_at s b = outstanding (word_at s b)

abbrev pub fits : State → Sizes → Type 0
fits s z = fitting nodes_for s z ≡ true

-- a claim at bin b, of so many bins, whose word is w: its ticket is outstanding, and the one served if it is inside
pub record Valid (bins b w : ℕ) (c : Claim Turn) : Type 0 where
  pub bin : b < bins
  pub ticket : ticket_of c.stage < 4294967296
  pub drawn : past (ticket_of c.stage) (served_of w) < outstanding w
  pub first : entered c.stage ≡ true → ticket_of c.stage ≡ served_of w

-- someone holds the ticket that is o places after the one served
abbrev pub Held : State → ℕ → ℕ → Type 0
Held s b o =
    (j : ℕ) × (c : Claim Turn) × (record_of s j ≡ Some c) × (c.bin ≡ b) × (ticket_of c.stage ≡ forward (served_at s b) o)

pub record Invariant (s : State) : Type 0 where
  pub fit : fits s s.bank.sizes
  pub word : (b : ℕ) → b < bins_of s → word_at s b < 18446744073709551616
  pub number : (b : ℕ) → b < bins_of s → count (at b) s.memory.records ≡ outstanding_at s b
  pub valid :
      (i b : ℕ) (c : Claim Turn) → record_of s i ≡ Some c → c.bin ≡ b → Valid (bins_of s) b (word_at s b) c
  pub unique :
      (i j : ℕ) (c d : Claim Turn) → record_of s i ≡ Some c → record_of s j ≡ Some d → c.bin ≡ d.bin →
      ticket_of c.stage ≡ ticket_of d.stage → i ≡ j
  pub held : (b o : ℕ) → b < bins_of s → o < outstanding_at s b → Held s b o

pub lengths : (s : State) → Invariant s → Sized 0 s.bank.sizes s.memory
lengths s I = sized 0 s.bank.sizes s.memory I.fit

session_length : (s : State) (i : ℕ) → Invariant s → i < sessions_of s → i < length s.memory.records
session_length s i I h = let z = lengths s I in omega arith

bin_length : (s : State) (b : ℕ) → Invariant s → b < bins_of s → b < length s.memory.words
bin_length s b I h = let z = lengths s I in omega arith

-- at most one ticket for each session is outstanding
pub few_outstanding : (s : State) (b : ℕ) → Invariant s → b < bins_of s → outstanding_at s b ≤ sessions_of s
few_outstanding s b I h = let z = lengths s I in omega (arith, count_le (at b) s.memory.records, I.number b h)

-- LAYOUT
module _ (s : State) (z : Sizes) (a : ℕ) where
  pub laid_record : (i : ℕ) → record_of (laid_out s z a) i ≡ None
  laid_record i = get_or_replicate_none (length s.memory.records) i

  pub laid_word : fits s z → (b : ℕ) → b < z.bins → word_at (laid_out s z a) b ≡ word_of a a
  laid_word h b k =
      let y = sized 0 z s.memory h in
      get_or-replicate (length s.memory.words) b (word_of a a) 0 (omega arith)

  pub laid_outstanding :
      fits s z → a < 4294967296 → (b : ℕ) → b < z.bins → outstanding_at (laid_out s z a) b ≡ 0
  laid_outstanding h l b k = ap outstanding (laid_word h b k) ∙ outstanding_word a a l ∙ past_same a l

  pub laid_invariant : fits s z → a < 4294967296 → Invariant (laid_out s z a)
  laid_invariant h l =
      let t = laid_out s z a in
      record {
        fit = simp length-replicate h;
        word = λ b k. rw (laid_word h b k) (word_below a a l l);
        number = λ b k. count_none (at b) (length s.memory.records) ∙ sym (laid_outstanding h l b k);
        valid = λ i b c e f. some_none (record_of t i) c (laid_record i) e;
        unique = λ i j c d e f g k. some_none (record_of t i) c (laid_record i) e;
        held = λ b o k q. absurd (omega (arith, q, laid_outstanding h l b k));
      }

-- a claim that is valid at its bin, by another name of the claim and of the bin
at_its_bin :
    (t : State) (c d : Claim Turn) (k : ℕ) → c ≡ d → d.bin ≡ k → Valid (bins_of t) c.bin (word_at t c.bin) c →
    Valid (bins_of t) k (word_at t k) d
at_its_bin t c d k e q V =
    let W = subst (λ (x : Claim Turn). Valid (bins_of t) x.bin (word_at t x.bin) x) e V in
    subst (λ l. Valid (bins_of t) l (word_at t l) d) q W

-- session j has claim d after session i was given claim c: it is that one, or was there before
abbrev ClaimCases : State → ℕ → Claim Turn → ℕ → Claim Turn → Type 0
ClaimCases s i c j d = ((j ≡ i) × (c ≡ d)) ⊎ ((j ≢ i) × (record_of s j ≡ Some d))

-- the word of bin c in t, after word w was written at bin b of s
abbrev WordCases : State → State → ℕ → ℕ → ℕ → Type 0
WordCases s t b w c = ((c ≡ b) × (word_at t c ≡ w)) ⊎ ((c ≢ b) × (word_at t c ≡ word_at s c))

-- ASK
-- a call of session i, which has no claim
pub record Unclaimed (s : State) (i b : ℕ) : Type 0 where
  pub session : i < sessions_of s
  pub bin : b < bins_of s
  pub none : record_of s i ≡ None

module _ {s : State} {i b : ℕ} (I : Invariant s) (U : Unclaimed s i b) where
  abbrev pub asked : State
  asked = (drawn s i b (next_at s b) (served_at s b)).after

  abbrev pub new_claim : Claim Turn
  new_claim = claim b (turn (next_at s b) (next_at s b == served_at s b))

  abbrev asked_word : ℕ
  asked_word = word_of (after (next_at s b)) (served_at s b)

  pub ask_next : next_at s b < 4294967296
  ask_next = next_below (word_at s b) (I.word b U.bin)

  ask_served : served_at s b < 4294967296
  ask_served = served_below (word_at s b)

  pub ask_length : i < length s.memory.records
  ask_length = session_length s i I U.session

  ask_words : (c : ℕ) → WordCases s asked b asked_word c
  ask_words c = write_cases s.memory.words b asked_word 0 c (bin_length s b I U.bin)

  ask_word : word_at asked b ≡ asked_word
  ask_word = get_or-set_same s.memory.words b asked_word 0 (bin_length s b I U.bin)

  pub ask_own : record_of asked i ≡ Some new_claim
  ask_own = get_or-set_same s.memory.records i (Some new_claim) None ask_length

  ask_claims : (j : ℕ) (c : Claim Turn) → record_of asked j ≡ Some c → ClaimCases s i new_claim j c
  ask_claims j c f = claim_cases s.memory.records i new_claim j c ask_length f

  ask_count : count (at b) asked.memory.records ≡ suc (count (at b) s.memory.records)
  ask_count =
      let c = count_set (at b) s.memory.records i (Some new_claim) ask_length in
      let f : one (passes (at b) (record_of s i)) ≡ 0 = ap (λ r. one (passes (at b) r)) U.none in
      let g : one (b == b) ≡ 1 = ap one (eq-eqb b b refl) in
      omega arith

  -- the session itself had no ticket, so fewer are outstanding than there are sessions
  pub ask_room : outstanding_at s b < sessions_of s
  ask_room =
      let z = lengths s I in
      let n = count_le (at b) asked.memory.records in
      let l = length-set s.memory.records i (Some new_claim) in
      omega (arith, ask_count, I.number b U.bin)

  pub ask_serves : served_at asked b ≡ served_at s b
  ask_serves = ap served_of ask_word ∙ served_word (after (next_at s b)) (served_at s b) ask_served

  pub ask_outstanding : outstanding_at asked b ≡ suc (outstanding_at s b)
  ask_outstanding =
      let z = lengths s I in
      let r = ask_room in
      ap outstanding ask_word
      ∙ outstanding_word (after (next_at s b)) (served_at s b) ask_served
      ∙ past_more (next_at s b) (served_at s b) ask_next ask_served (omega arith)

  ask_word_below : (c : ℕ) → c < bins_of s → word_at asked c < 18446744073709551616
  ask_word_below c h = go (ask_words c)
    where
      go : WordCases s asked b asked_word c → word_at asked c < 18446744073709551616
      go (inl p) = rw p.1 (word_below (after (next_at s b)) (served_at s b) (after_below (next_at s b)) ask_served)
      go (inr p) = rw p.1 (I.word c h)

  ask_elsewhere : (c : ℕ) → (c ≢ b) → passes (at c) (Some new_claim) ≡ passes (at c) (record_of s i)
  ask_elsewhere c n = ne_eqb b c (λ q. n (sym q)) ∙ sym (ap (passes (at c)) U.none)

  ask_number : (c : ℕ) → c < bins_of s → count (at c) asked.memory.records ≡ outstanding_at asked c
  ask_number c h = go (ask_words c)
    where
      here : count (at b) asked.memory.records ≡ outstanding_at asked b
      here = ask_count ∙ ap suc (I.number b U.bin) ∙ sym ask_outstanding

      go : WordCases s asked b asked_word c → count (at c) asked.memory.records ≡ outstanding_at asked c
      go (inl p) = subst (λ d. count (at d) asked.memory.records ≡ outstanding_at asked d) (sym p.0) here
      go (inr p) =
          count_same (at c) s.memory.records i (Some new_claim) (ask_elsewhere c p.0)
          ∙ I.number c h
          ∙ sym (ap outstanding p.1)

  -- the new claim has the next ticket, and is inside exactly if that is the one served
  pub new_ticket : ticket_of new_claim.stage ≡ next_at s b
  new_ticket = ticket_of-turn (next_at s b) (next_at s b == served_at s b)

  pub new_entered : entered new_claim.stage ≡ (next_at s b == served_at s b)
  new_entered = entered-turn (next_at s b) (next_at s b == served_at s b)

  ask_new_valid : Valid (bins_of s) b (word_at asked b) new_claim
  ask_new_valid =
      record {
        bin = U.bin;
        ticket = rw new_ticket ask_next;
        drawn = rw (new_ticket, ask_outstanding, ask_serves) (omega arith);
        first = λ q. new_ticket ∙ eqb-true (next_at s b) (served_at s b) (sym new_entered ∙ q) ∙ sym ask_serves;
      }

  ask_old_valid : (c : Claim Turn) → Valid (bins_of s) b (word_at s b) c → Valid (bins_of s) b (word_at asked b) c
  ask_old_valid c V =
      record {
        bin = U.bin;
        ticket = V.ticket;
        drawn = rw (ask_outstanding, ask_serves) (omega (arith, V.drawn));
        first = λ q. V.first q ∙ sym ask_serves;
      }

  ask_valid :
      (j k : ℕ) (c : Claim Turn) → record_of asked j ≡ Some c → c.bin ≡ k → Valid (bins_of s) k (word_at asked k) c
  ask_valid j k c f q = go (ask_claims j c f) (ask_words k)
    where
      go : ClaimCases s i new_claim j c → WordCases s asked b asked_word k → Valid (bins_of s) k (word_at asked k) c
      go (inl p) w = at_its_bin asked new_claim c k p.1 q ask_new_valid
      go (inr p) (inl r) =
          subst (λ l. Valid (bins_of s) l (word_at asked l) c) (sym r.0) (ask_old_valid c (I.valid j b c p.1 (q ∙ r.0)))
      go (inr p) (inr r) = subst (λ w. Valid (bins_of s) k w c) (sym r.1) (I.valid j k c p.1 q)

  -- nobody held the new ticket
  ask_new :
      {A : Type 0} (j : ℕ) (c d : Claim Turn) → record_of s j ≡ Some c → new_claim ≡ d → d.bin ≡ c.bin →
      ticket_of d.stage ≡ ticket_of c.stage → A
  ask_new j c d f e p q =
      let V = I.valid j b c f (sym p ∙ ap (λ (z : Claim Turn). z.bin) (sym e)) in
      let t : ticket_of c.stage ≡ next_at s b = sym q ∙ ap (λ (z : Claim Turn). ticket_of z.stage) (sym e) ∙ new_ticket in
      let l = subst (λ t. past t (served_at s b) < outstanding_at s b) t V.drawn in
      absurd (omega (arith, l))

  ask_unique :
      (j k : ℕ) (c d : Claim Turn) → record_of asked j ≡ Some c → record_of asked k ≡ Some d → c.bin ≡ d.bin →
      ticket_of c.stage ≡ ticket_of d.stage → j ≡ k
  ask_unique j k c d f g p q = go (ask_claims j c f) (ask_claims k d g)
    where
      go : ClaimCases s i new_claim j c → ClaimCases s i new_claim k d → j ≡ k
      go (inl x) (inl y) = x.0 ∙ sym y.0
      go (inl x) (inr y) = ask_new k d c y.1 x.1 p q
      go (inr x) (inl y) = ask_new j c d x.1 y.1 (sym p) (sym q)
      go (inr x) (inr y) = I.unique j k c d x.1 y.1 p q

  -- a claim from before stays
  ask_keeps : (j : ℕ) (c : Claim Turn) → record_of s j ≡ Some c → record_of asked j ≡ Some c
  ask_keeps j c f = get_or-set_other s.memory.records i j (Some new_claim) None other ∙ f
    where
      other : j ≡ i → ⊥
      other q = some_none (record_of s j) c (ap (record_of s) q ∙ U.none) f

  ask_held_here : (o : ℕ) → o < suc (outstanding_at s b) → Held asked b o
  ask_held_here o l = go (cases_lt o (outstanding_at s b))
    where
      last : outstanding_at s b ≡ o → next_at s b ≡ forward (served_at asked b) o
      last q =
          sym (forward_past (next_at s b) (served_at s b) ask_next ask_served)
          ∙ ap (λ v. forward v (outstanding_at s b)) (sym ask_serves)
          ∙ ap (forward (served_at asked b)) q

      go : (o < outstanding_at s b) ⊎ (outstanding_at s b ≤ o) → Held asked b o
      go (inl k) =
          let w = I.held b o U.bin k in
          (w.0, w.1, ask_keeps w.0 w.1 w.2, w.3, w.4 ∙ ap (λ v. forward v o) (sym ask_serves))
      go (inr k) = (i, new_claim, ask_own, refl, new_ticket ∙ last (omega arith))

  ask_held : (c o : ℕ) → c < bins_of s → o < outstanding_at asked c → Held asked c o
  ask_held c o h l = go (ask_words c)
    where
      go : WordCases s asked b asked_word c → Held asked c o
      go (inl p) =
          let k : o < suc (outstanding_at s b) = subst (λ n. o < n) (ap (outstanding_at asked) p.0 ∙ ask_outstanding) l in
          subst (λ d. Held asked d o) (sym p.0) (ask_held_here o k)
      go (inr p) =
          let w = I.held c o h (subst (λ w. o < outstanding w) p.1 l) in
          (w.0, w.1, ask_keeps w.0 w.1 w.2, w.3, w.4 ∙ ap (λ w. forward (served_of w) o) (sym p.1))

  pub ask_invariant : Invariant asked
  ask_invariant =
      record {
        fit = simp length-set I.fit;
        word = ask_word_below;
        number = ask_number;
        valid = ask_valid;
        unique = ask_unique;
        held = ask_held;
      }

-- PUSH AND LEAVE
-- a call of session i, which has the claim c at bin b
pub record Claimed (s : State) (i b : ℕ) (c : Claim Turn) : Type 0 where
  pub session : i < sessions_of s
  pub bin : b < bins_of s
  pub read : record_of s i ≡ Some c
  pub here : c.bin ≡ b

-- a push that brings the session in, since its ticket is the one served
module _
    {s : State} {i b : ℕ} {c : Claim Turn} (I : Invariant s) (C : Claimed s i b c)
    (et : ticket_of c.stage ≡ served_at s b) where
  abbrev pub entry_claim : Claim Turn
  entry_claim = claim b (Inside (ticket_of c.stage))

  abbrev pub pushed : State
  pushed = with_record s i (Some entry_claim)

  push_length : i < length s.memory.records
  push_length = session_length s i I C.session

  pub push_own : record_of pushed i ≡ Some entry_claim
  push_own = get_or-set_same s.memory.records i (Some entry_claim) None push_length

  push_claims : (j : ℕ) (d : Claim Turn) → record_of pushed j ≡ Some d → ClaimCases s i entry_claim j d
  push_claims j d f = claim_cases s.memory.records i entry_claim j d push_length f

  -- its bin and its ticket are those from before
  push_before :
      (j : ℕ) (d : Claim Turn) → record_of pushed j ≡ Some d →
      (x : Claim Turn) × (record_of s j ≡ Some x) × (x.bin ≡ d.bin) × (ticket_of x.stage ≡ ticket_of d.stage)
  push_before j d f = go (push_claims j d f)
    where
      go :
          ClaimCases s i entry_claim j d →
          (x : Claim Turn) × (record_of s j ≡ Some x) × (x.bin ≡ d.bin) × (ticket_of x.stage ≡ ticket_of d.stage)
      go (inl p) =
          let q : c.bin ≡ d.bin = C.here ∙ ap (λ (z : Claim Turn). z.bin) p.1 in
          (c, ap (record_of s) p.0 ∙ C.read, q, ap (λ (z : Claim Turn). ticket_of z.stage) p.1)
      go (inr p) = (d, p.1, refl, refl)

  pub push_at : (k : ℕ) → passes (at k) (Some entry_claim) ≡ passes (at k) (record_of s i)
  push_at k = ap (λ d. nat_eq d k) (sym C.here) ∙ sym (ap (passes (at k)) C.read)

  push_entry_valid : Valid (bins_of s) b (word_at s b) entry_claim
  push_entry_valid =
      let V = I.valid i b c C.read C.here in
      record { bin = C.bin; ticket = V.ticket; drawn = V.drawn; first = λ q. et }

  push_valid :
      (j k : ℕ) (d : Claim Turn) → record_of pushed j ≡ Some d → d.bin ≡ k → Valid (bins_of s) k (word_at s k) d
  push_valid j k d f q = go (push_claims j d f)
    where
      go : ClaimCases s i entry_claim j d → Valid (bins_of s) k (word_at s k) d
      go (inl p) = at_its_bin s entry_claim d k p.1 q push_entry_valid
      go (inr p) = I.valid j k d p.1 q

  push_unique :
      (j k : ℕ) (d f : Claim Turn) → record_of pushed j ≡ Some d → record_of pushed k ≡ Some f → d.bin ≡ f.bin →
      ticket_of d.stage ≡ ticket_of f.stage → j ≡ k
  push_unique j k d f g h p q =
      let x = push_before j d g in
      let y = push_before k f h in
      I.unique j k x.0 y.0 x.1 y.1 (x.2 ∙ p ∙ sym y.2) (x.3 ∙ q ∙ sym y.3)

  push_held : (k o : ℕ) → k < bins_of s → o < outstanding_at s k → Held pushed k o
  push_held k o h l = go (I.held k o h l)
    where
      go : Held s k o → Held pushed k o
      go w = same (cases_eq w.0 i)
        where
          same : (w.0 ≡ i) ⊎ (w.0 ≢ i) → Held pushed k o
          same (inl p) =
              let q = same_Some c w.1 (sym C.read ∙ sym (ap (record_of s) p) ∙ w.2) in
              let x : b ≡ k = sym C.here ∙ ap (λ (z : Claim Turn). z.bin) q ∙ w.3 in
              (i, entry_claim, push_own, x, ap (λ (z : Claim Turn). ticket_of z.stage) q ∙ w.4)
          same (inr n) =
              (w.0, w.1, get_or-set_other s.memory.records i w.0 (Some entry_claim) None n ∙ w.2, w.3, w.4)

  pub push_invariant : Invariant pushed
  push_invariant =
      record {
        fit = simp length-set I.fit;
        word = I.word;
        number = λ k h. count_same (at k) s.memory.records i (Some entry_claim) (push_at k) ∙ I.number k h;
        valid = push_valid;
        unique = push_unique;
        held = push_held;
      }

-- a leave of one that is inside
module _ {s : State} {i b : ℕ} {c : Claim Turn} (I : Invariant s) (C : Claimed s i b c) (ei : entered c.stage ≡ true) where
  abbrev pub left : State
  left = (served_next s i b (word_at s b)).after

  abbrev left_word : ℕ
  left_word = word_of (next_at s b) (after (served_at s b))

  leave_claim_valid : Valid (bins_of s) b (word_at s b) c
  leave_claim_valid = I.valid i b c C.read C.here

  pub leave_ticket : ticket_of c.stage ≡ served_at s b
  leave_ticket = leave_claim_valid.first ei

  leave_next : next_at s b < 4294967296
  leave_next = next_below (word_at s b) (I.word b C.bin)

  leave_served : served_at s b < 4294967296
  leave_served = served_below (word_at s b)

  pub leave_length : i < length s.memory.records
  leave_length = session_length s i I C.session

  leave_words : (k : ℕ) → WordCases s left b left_word k
  leave_words k = write_cases s.memory.words b left_word 0 k (bin_length s b I C.bin)

  leave_word : word_at left b ≡ left_word
  leave_word = get_or-set_same s.memory.words b left_word 0 (bin_length s b I C.bin)

  pub leave_serves : served_at left b ≡ after (served_at s b)
  leave_serves =
      ap served_of leave_word ∙ served_word (next_at s b) (after (served_at s b)) (after_below (served_at s b))

  pub leave_outstanding : outstanding_at s b ≡ suc (outstanding_at left b)
  leave_outstanding =
      let d = leave_claim_valid.drawn in
      let w = outstanding_word (next_at s b) (after (served_at s b)) (after_below (served_at s b)) in
      past_less (next_at s b) (served_at s b) leave_next leave_served (omega (arith, d))
      ∙ ap suc (sym (ap outstanding leave_word ∙ w))

  pub leave_few : suc (outstanding_at left b) ≤ 1024
  leave_few = let z = lengths s I in omega (arith, few_outstanding s b I C.bin, leave_outstanding)

  pub leave_own : record_of left i ≡ None
  leave_own = get_or-set_same s.memory.records i None None leave_length

  -- the claims left are those of other sessions
  pub leave_claims :
      (j : ℕ) (d : Claim Turn) → record_of left j ≡ Some d → (j ≢ i) × (record_of s j ≡ Some d)
  leave_claims j d f = (other, sym (get_or-set_other s.memory.records i j None None other) ∙ f)
    where
      other : j ≡ i → ⊥
      other q = some_none (record_of left j) d (ap (record_of left) q ∙ leave_own) f

  leave_word_below : (k : ℕ) → k < bins_of s → word_at left k < 18446744073709551616
  leave_word_below k h = go (leave_words k)
    where
      go : WordCases s left b left_word k → word_at left k < 18446744073709551616
      go (inl p) =
          rw p.1 (word_below (next_at s b) (after (served_at s b)) leave_next (after_below (served_at s b)))
      go (inr p) = rw p.1 (I.word k h)

  leave_count : suc (count (at b) left.memory.records) ≡ count (at b) s.memory.records
  leave_count =
      let n = count_set (at b) s.memory.records i None leave_length in
      let e = ap (λ r. one (passes (at b) r)) C.read ∙ ap one (eq-eqb c.bin b C.here) in
      omega (arith, e)

  leave_number : (k : ℕ) → k < bins_of s → count (at k) left.memory.records ≡ outstanding_at left k
  leave_number k h = go (leave_words k)
    where
      here : count (at b) left.memory.records ≡ outstanding_at left b
      here = omega (arith, leave_count, I.number b C.bin, leave_outstanding)

      go : WordCases s left b left_word k → count (at k) left.memory.records ≡ outstanding_at left k
      go (inl p) = subst (λ d. count (at d) left.memory.records ≡ outstanding_at left d) (sym p.0) here
      go (inr p) =
          count_same (at k) s.memory.records i None (sym (at_no_other (record_of s i) c b k C.read C.here p.0))
          ∙ I.number k h
          ∙ sym (ap outstanding p.1)

  -- another claim at this bin has a later ticket
  leave_later :
      (j : ℕ) (d : Claim Turn) → (j ≢ i) → record_of s j ≡ Some d → d.bin ≡ b →
      ticket_of d.stage ≢ served_at s b
  leave_later j d n f q r = n (I.unique j i d c f C.read (q ∙ sym C.here) (r ∙ sym leave_ticket))

  leave_valid_here :
      (j : ℕ) (d : Claim Turn) → (j ≢ i) → record_of s j ≡ Some d → d.bin ≡ b →
      Valid (bins_of s) b (word_at left b) d
  leave_valid_here j d n f q =
      let V = I.valid j b d f q in
      let later = leave_later j d n f q in
      let t = ticket_of d.stage in
      let z = not_zero (λ z. later (past_zero t (served_at s b) V.ticket leave_served z)) in
      let l = lower V.drawn (past_less t (served_at s b) V.ticket leave_served z) leave_outstanding in
      record {
        bin = C.bin;
        ticket = V.ticket;
        drawn = subst (λ v. past (ticket_of d.stage) v < outstanding_at left b) (sym leave_serves) l;
        first = λ y. absurd (later (V.first y));
      }
    where
      not_zero : {p : ℕ} → (p ≢ 0) → 0 < p
      not_zero n = omega arith

      lower : {p q g h : ℕ} → p < g → p ≡ suc q → g ≡ suc h → q < h
      lower l e f = omega arith

  leave_valid :
      (j k : ℕ) (d : Claim Turn) → record_of left j ≡ Some d → d.bin ≡ k → Valid (bins_of s) k (word_at left k) d
  leave_valid j k d f q = go (leave_claims j d f) (leave_words k)
    where
      go :
          (j ≢ i) × (record_of s j ≡ Some d) → WordCases s left b left_word k →
          Valid (bins_of s) k (word_at left k) d
      go w (inl p) =
          let V = leave_valid_here j d w.0 w.1 (q ∙ p.0) in
          subst (λ l. Valid (bins_of s) l (word_at left l) d) (sym p.0) V
      go w (inr p) = subst (λ w. Valid (bins_of s) k w d) (sym p.1) (I.valid j k d w.1 q)

  leave_unique :
      (j k : ℕ) (d f : Claim Turn) → record_of left j ≡ Some d → record_of left k ≡ Some f → d.bin ≡ f.bin →
      ticket_of d.stage ≡ ticket_of f.stage → j ≡ k
  leave_unique j k d f g h p q = I.unique j k d f (leave_claims j d g).1 (leave_claims k f h).1 p q

  -- a claim unlike the leaver's is another session's, and stays
  leave_keeps_other :
      (j : ℕ) (d : Claim Turn) → record_of s j ≡ Some d → (d ≢ c) → record_of left j ≡ Some d
  leave_keeps_other j d f n =
      get_or-set_other s.memory.records i j None None (λ q. n (same_Some d c (sym f ∙ ap (record_of s) q ∙ C.read))) ∙ f

  leave_held_here : (o : ℕ) → o < outstanding_at left b → Held left b o
  leave_held_here o l = go (I.held b (suc o) C.bin (subst (λ n. suc o < n) (sym leave_outstanding) (omega arith)))
    where
      apart : (d : Claim Turn) → ticket_of d.stage ≡ forward (served_at s b) (suc o) → d ≢ c
      apart d t q =
          let e = sym t ∙ ap (λ (z : Claim Turn). ticket_of z.stage) q ∙ leave_ticket in
          forward_apart (served_at s b) o leave_served (omega (arith, leave_few)) e

      go : Held s b (suc o) → Held left b o
      go w =
          let t = w.4 ∙ forward_after (served_at s b) o ∙ ap (λ v. forward v o) (sym leave_serves) in
          (w.0, w.1, leave_keeps_other w.0 w.1 w.2 (apart w.1 w.4), w.3, t)

  leave_held : (k o : ℕ) → k < bins_of s → o < outstanding_at left k → Held left k o
  leave_held k o h l = go (leave_words k)
    where
      go : WordCases s left b left_word k → Held left k o
      go (inl p) =
          let m = subst (λ d. o < outstanding_at left d) p.0 l in
          subst (λ d. Held left d o) (sym p.0) (leave_held_here o m)
      go (inr p) =
          let w = I.held k o h (subst (λ w. o < outstanding w) p.1 l) in
          let n : w.1 ≡ c → ⊥ = λ q. p.0 (sym w.3 ∙ ap (λ (z : Claim Turn). z.bin) q ∙ C.here) in
          let t = w.4 ∙ ap (λ w. forward (served_of w) o) (sym p.1) in
          (w.0, w.1, leave_keeps_other w.0 w.1 w.2 n, w.3, t)

  pub leave_invariant : Invariant left
  leave_invariant =
      record {
        fit = simp length-set I.fit;
        word = leave_word_below;
        number = leave_number;
        valid = leave_valid;
        unique = leave_unique;
        held = leave_held;
      }
