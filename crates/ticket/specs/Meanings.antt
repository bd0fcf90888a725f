-- What a state with the invariant means at each bin, and what layout leaves.
use Rattle.std.specs.Prelude.{◌≡◌, ℕ, zero, suc, ◌%◌, ◌<◌, Bool, true, false, List, ◌∷◌, ◌++◌, length, is_ok, Some, None, Option, ◌==◌, refl}
use Rattle.std.proofs.Common.{⊎_elim, sym, ap, ◌∙◌, arith}
use Rattle.std.proofs.lemmas.Bool.{eqb-true, eq-eqb, true≢false, cases_lt}
use Rattle.bank.specs.Claims.{passes, found, at, at_stage, askers}
use Rattle.bank.specs.Kind.{has}
use Rattle.bank.specs.Laws.{BinMeaning, AskerExists, LaidOut, LineMeaning}
use Rattle.bank.specs.Locks.{word_at, record_of}
use Rattle.bank.specs.declared.memory.Claim.{Claim}
use Rattle.bank.specs.declared.memory.Sizes.{Sizes}
use Rattle.bank.proofs.Askers.{one_bin, asker_session, asker_in_range}
use Rattle.bank.proofs.Claims.{found_replicate, asker_claim, claim_asker, inside_claim, nobody_inside, one_inside}
use Rattle.bank.proofs.Layouts.{layout_granted}
use Rattle.ticket.specs.declared.Turn.{Turn}
use Rattle.ticket.specs.Word.{served_of, past}
use Rattle.ticket.specs.State.{State, bins_of, entered, ticket_of}
use Rattle.ticket.specs.Meaning.{inside, age_with, calm, holds, listed, holders, line}
use Rattle.ticket.specs.Calls.{laid_out, lays}
use Rattle.ticket.specs.Tickets.{forward, served_word, next_below, served_below, after_below, past_same, past_zero, forward_past}
use Rattle.ticket.specs.Holders.{has_holders, holders_has, holders_at}
use Rattle.ticket.specs.Invariant.{next_at, served_at, outstanding_at, fits, Invariant, laid_record, laid_word, laid_outstanding, laid_invariant}
use Rattle.ticket.specs.Views.{ticket, claim_in_range}

-- only the holder of the ticket served is inside
pub inside_one :
    (s : State) (b i : ℕ) (c : Claim Turn) → Invariant s → record_of s i ≡ Some c → c.bin ≡ b →
    entered c.stage ≡ true → inside s b ≡ Some i
inside_one s b i c I e q r =
    one_inside entered s b i c e q r only
  where
    only : (j : ℕ) (d : Claim Turn) → record_of s j ≡ Some d → d.bin ≡ b → entered d.stage ≡ true → j ≡ i
    only j d f p h =
        I.unique j i d c f e (p ∙ sym q) ((I.valid j b d f p).first h ∙ sym ((I.valid i b c e q).first r))

-- the holder of a ticket
abbrev pub of_ticket : ℕ → Turn → Bool
of_ticket t x = ticket_of x == t

pub holder_is :
    (s : State) (b t i : ℕ) (c : Claim Turn) → Invariant s → record_of s i ≡ Some c → c.bin ≡ b →
    ticket_of c.stage ≡ t → found (holds b t) 0 s.memory.records ≡ Some i
holder_is s b t i c I e q r = one_inside (of_ticket t) s b i c e q (eq-eqb (ticket_of c.stage) t r) only
  where
    only : (j : ℕ) (d : Claim Turn) → record_of s j ≡ Some d → d.bin ≡ b → of_ticket t d.stage ≡ true → j ≡ i
    only j d f p k = I.unique j i d c f e (p ∙ sym q) (eqb-true (ticket_of d.stage) t k ∙ sym r)

holder_claim :
    (s : State) (b t i : ℕ) → found (holds b t) 0 s.memory.records ≡ Some i →
    (c : Claim Turn) × (record_of s i ≡ Some c) × (c.bin ≡ b) × (ticket_of c.stage ≡ t)
holder_claim s b t i e =
    let w = inside_claim (of_ticket t) s b i e in
    (w.0, w.1, w.2, eqb-true (ticket_of w.0.stage) t w.3)

-- a bin is calm exactly where no ticket is outstanding
pub calm_outstanding : (s : State) (b : ℕ) → calm s b ≡ true → outstanding_at s b ≡ 0
calm_outstanding s b e =
    ap (λ n. past n (served_at s b)) (eqb-true (next_at s b) (served_at s b) e)
    ∙ past_same (served_at s b) (served_below (word_at s b))

pub outstanding_calm : (s : State) (b : ℕ) → Invariant s → b < bins_of s → outstanding_at s b ≡ 0 → calm s b ≡ true
outstanding_calm s b I h z =
    let n = next_below (word_at s b) (I.word b h) in
    eq-eqb (next_at s b) (served_at s b) (past_zero (next_at s b) (served_at s b) n (served_below (word_at s b)) z)

pub calm_inside : (s : State) (b : ℕ) → Invariant s → calm s b ≡ true → inside s b ≡ None
calm_inside s b I e =
    nobody_inside entered s b (λ j c f q r. let d = (I.valid j b c f q).drawn in omega (arith, d, calm_outstanding s b e))

age_below : (v : ℕ) (o : Option ℕ) → v < 4294967296 → age_with v o < 4294967296
age_below v None h = h
age_below v (Some i) h = after_below v

pub unasked_outstanding :
    (s : State) (b : ℕ) → Invariant s → b < bins_of s → ((i : ℕ) → askers s b i ≡ false) → outstanding_at s b ≡ 0
unasked_outstanding s b I h n =
    ⊎_elim
    (λ l. let w = I.held b 0 h l in absurd (true≢false (sym (claim_asker s b w.0 w.1 w.2 w.3) ∙ n w.0)))
    (λ l. omega arith)
    (cases_lt 0 (outstanding_at s b))

pub bin_meaning : (s : State) (b : ℕ) → Invariant s → b < bins_of s → BinMeaning ticket s b
bin_meaning s b I h =
    record {
      calm_read_off_mark = refl;
      age_read_off_calm_mark = λ e. ap (age_with (served_at s b)) (calm_inside s b I e);
      age_below_modulus = age_below (served_at s b) (inside s b) (served_below (word_at s b));
      mark_fits = I.word b h;
      calm_has_nobody_inside = calm_inside s b I;
      unasked_is_calm = λ n. outstanding_calm s b I h (unasked_outstanding s b I h n);
      inside_is_asker = λ i e. let w = inside_claim entered s b i e in (claim_asker s b i w.0 w.1 w.2, refl);
      leaving_is_asker = λ i e. absurd (true≢false (sym e));
      asks_at_one_bin = λ i c. one_bin s b c i;
    }

pub asker_exists : (s : State) (i b : ℕ) → Invariant s → AskerExists ticket s i b
asker_exists s i b I =
    record {
      session = asker_session s 0 s.bank.sizes b i I.fit;
      bin = asker_in_range s (bins_of s) b i (claim_in_range s i I);
    }

laid_meaning : (s : State) (z : Sizes) (a : ℕ) → fits s z → a < 4294967296 → LaidOut ticket (laid_out s z a) z a
laid_meaning s z a p q =
    let t = laid_out s z a in
    record {
      sizes = refl;
      fit = (laid_invariant s z a p q).fit;
      no_askers = λ b i k. ap (passes (at b)) (laid_record s z a i);
      starting_age =
          λ b k.
          ap (age_with (served_at t b)) (found_replicate (at_stage entered b) 0 (length s.memory.records))
          ∙ ap served_of (laid_word s z a p b k)
          ∙ served_word a a q;
      empty_line = λ b k. ap (holders t.memory.records b (served_at t b)) (laid_outstanding s z a p q b k);
    }

pub laid_out_means : (s : State) (z : Sizes) (a : ℕ) → is_ok (lays s z a).answer ≡ true → LaidOut ticket (lays s z a).after z a
laid_out_means s z a h =
    let g = layout_granted ticket laid_out (λ s z a. refl) s z a h in
    rw g.2 (laid_meaning s z a g.0 g.1)

-- LINES
-- the holder of the ticket served is the first in line
pub line_first :
    (s : State) (b i : ℕ) (c : Claim Turn) (n : ℕ) → Invariant s → record_of s i ≡ Some c → c.bin ≡ b →
    ticket_of c.stage ≡ served_at s b → outstanding_at s b ≡ suc n →
    line s b ≡ i ∷ holders s.memory.records b (suc (served_at s b)) n
line_first s b i c n I e q r z =
    let rest = holders s.memory.records b (suc (served_at s b)) n in
    ap (holders s.memory.records b (served_at s b)) z
    ∙ ap (λ o. listed o rest) (holder_is s b (served_at s b % 4294967296) i c I e q (r ∙ omega arith))

-- the place of a session in line is how far its ticket is past the one served
pub line_place :
    (s : State) (b i : ℕ) (front rest : List ℕ) → Invariant s → b < bins_of s → line s b ≡ front ++ (i ∷ rest) →
    (length front < outstanding_at s b)
    × ((c : Claim Turn) × (record_of s i ≡ Some c) × (c.bin ≡ b) × (ticket_of c.stage ≡ forward (served_at s b) (length front)))
line_place s b i front rest I h e =
    let w = holders_at s.memory.records b (served_at s b) (outstanding_at s b) i front rest held e in
    (w.0, holder_claim s b (forward (served_at s b) (length front)) i w.1)
  where
    held :
        (o : ℕ) → o < outstanding_at s b →
        (j : ℕ) × (found (holds b (forward (served_at s b) o)) 0 s.memory.records ≡ Some j)
    held o l =
        let v = I.held b o h l in
        (v.0, holder_is s b (forward (served_at s b) o) v.0 v.1 I v.2 v.3 v.4)

same_tests : (x y : Bool) → (x ≡ true → y ≡ true) → (y ≡ true → x ≡ true) → x ≡ y
same_tests true y f g = sym (f refl)
same_tests false true f g = g refl
same_tests false false f g = refl

asker_in_line : (s : State) (b i : ℕ) → Invariant s → askers s b i ≡ true → has i (line s b) ≡ true
asker_in_line s b i I p =
    let v = asker_claim s b i p in
    let V = I.valid i b v.0 v.1 v.2 in
    let o = past (ticket_of v.0.stage) (served_at s b) in
    let t = sym (forward_past (ticket_of v.0.stage) (served_at s b) V.ticket (served_below (word_at s b))) in
    let h = holder_is s b (forward (served_at s b) o) i v.0 I v.1 v.2 t in
    holders_has s.memory.records b (served_at s b) (outstanding_at s b) i o V.drawn h

in_line_asker : (s : State) (b i : ℕ) → has i (line s b) ≡ true → askers s b i ≡ true
in_line_asker s b i p =
    let w = has_holders s.memory.records b (served_at s b) (outstanding_at s b) i p in
    let v = holder_claim s b (forward (served_at s b) w.0) i w.2 in
    claim_asker s b i v.0 v.1 v.2

some_less : (n m : ℕ) → n < m → (k : ℕ) × (m ≡ suc k)
some_less n zero l = absurd (omega arith)
some_less n (suc k) l = (k, refl)

pub line_meaning : (s : State) (b : ℕ) → Invariant s → b < bins_of s → LineMeaning ticket s b
line_meaning s b I h =
    record {
      holds_the_askers = λ i. same_tests (askers s b i) (has i (line s b)) (asker_in_line s b i I) (in_line_asker s b i);
      only_first_inside =
          λ i e.
          let w = inside_claim entered s b i e in
          let V = I.valid i b w.0 w.1 w.2 in
          let n = some_less (past (ticket_of w.0.stage) (served_at s b)) (outstanding_at s b) V.drawn in
          let rest = holders s.memory.records b (suc (served_at s b)) n.0 in
          (rest, line_first s b i w.0 n.0 I w.1 w.2 (V.first w.3) n.1);
      only_first_leaving = λ i e. absurd (true≢false (sym e));
    }
