-- Each action, from a state with the invariant to one with the invariant.
use Rattle.std.specs.Prelude.{◌≡◌, ℕ, ◌<◌, true, false, List, [], ◌∷◌, ◌++◌, length, get_or, Some, None, Option, ◌≢◌, slice_index, slice_index_or, slice_set, refl}
use Rattle.std.proofs.Common.{inl, inr, ⊎_elim, sym, ap, subst, ◌∙◌, arith}
use Rattle.std.proofs.lemmas.List.{get_or-set_same, get_or-set_other, length-set}
use Rattle.std.proofs.lemmas.Bool.{cases_eq, true≢false, ne_eqb, lt-ltb}
use Rattle.bank.specs.Claims.{passes, at, askers, claim}
use Rattle.bank.specs.Kind.{Same}
use Rattle.bank.specs.Locks.{word_at, record_of, node_of}
use Rattle.bank.specs.Memory.{empty_node}
use Rattle.bank.specs.declared.memory.Claim.{Claim}
use Rattle.bank.specs.declared.memory.Node.{Node}
use Rattle.bank.proofs.Askers.{at_no_other, one_bin}
use Rattle.bank.proofs.Claims.{some_none, claim_asker, write_cases}
use Rattle.queuing.specs.declared.Stage.{Stage}
use Rattle.queuing.specs.declared.Stage.TheVariants.{Link, See, Inside, Hand}
use Rattle.queuing.specs.declared.word.Word.{Word}
use Rattle.queuing.specs.declared.word.Word.TheVariants.{Free, Held}
use Rattle.queuing.specs.Actions.{entered_at_once, lined_up, linked, freed, handed}
use Rattle.queuing.specs.State.{State, bins_of, with_next, with_version}
use Rattle.queuing.specs.Word.{packed, next_version}
use Rattle.queuing.specs.Changes.{set_changed, altered, Change, own_record, same_elsewhere, invariant_after}
use Rattle.queuing.specs.Invariant.{Bin, Invariant, lengths, own_place, member_there}
use Rattle.queuing.specs.Kind.{queuing}
use Rattle.queuing.specs.Lines.{In, last}
use Rattle.queuing.specs.Meanings.{Leader}
use Rattle.queuing.specs.Queue.{Changed, First, Stands, Leads, Says, in_asks, behind_someone, link_behind, exchange_free, exchange_behind, link_keeps, restaged, freed_keeps, handed_keeps, to_link_finds}
use Rattle.queuing.specs.Views.{Owns, At}

-- session i went from s to t at bin b, and has the record r now
pub record Step (s t : State) (i b : ℕ) (r : Option (Claim Stage)) : Type 0 where
  pub invariant : Invariant t
  pub same : (c : ℕ) → c < bins_of s → (c ≢ b) → Same queuing s t c
  pub own : Changed (record_of s) (record_of t) i r

stepped :
    {s : State} {i b : ℕ} {ws : List ℕ} {r : Option (Claim Stage)} {ns : List Node} {w : Word} {l : List ℕ} →
    Invariant s → Change s i b ws r ns → Bin (altered s i ws r ns) b w l → Step s (altered s i ws r ns) i b r
stepped I C B =
    let J = invariant_after I C B in
    record { invariant = J; same = λ c h n. same_elsewhere I C c n J h; own = own_record I C }

-- the same where the line at the bin has a leader
led :
    {s : State} {i b f v : ℕ} {ws : List ℕ} {r : Option (Claim Stage)} {ns : List Node} (w : Word) (rest : List ℕ)
    (g : Stage) → Invariant s → Change s i b ws r ns → slice_index ws b ≡ packed w →
    First w (record_of (altered s i ws r ns)) (node_of (altered s i ws r ns)) b f rest g v
    × Stands w (record_of (altered s i ws r ns)) (node_of (altered s i ws r ns)) b (f ∷ rest) →
    Step s (altered s i ws r ns) i b r × Leader (altered s i ws r ns) b w f rest g v
led {s} {i} {b} {f} {v} {ws} {r} {ns} w rest g I C e k =
    let B : Bin (altered s i ws r ns) b w (f ∷ rest) = record { stored = e; stands = k.1 } in
    (stepped I C B, record { bin = B; first = k.0 })

-- WORDS: the word of bin b is x in ws, and the others are as in s
pub record Worded (s : State) (b : ℕ) (ws : List ℕ) (x : ℕ) : Type 0 where
  pub length : length ws ≡ length s.memory.words
  pub at : get_or ws b 0 ≡ x
  pub other : (c : ℕ) → (c ≢ b) → slice_index ws c ≡ word_at s c

pub word_kept : (s : State) (b : ℕ) → Worded s b s.memory.words (word_at s b)
word_kept s b = record { length = refl; at = refl; other = λ c n. refl }

pub word_set : {s : State} {b : ℕ} (x : ℕ) → Invariant s → b < bins_of s → Worded s b (slice_set s.memory.words b x) x
word_set {s} {b} x I h =
    let z = lengths I in
    record {
      length = length-set s.memory.words b x;
      at = get_or-set_same s.memory.words b x 0 (omega arith);
      other = λ c n. get_or-set_other s.memory.words b c x 0 n;
    }

-- CLAIMS at bin b
-- a session with a claim at bin b asks there and at no other bin
module _ {s : State} {i b : ℕ} {g : Stage} (a : At s i b g) where
  asks_here : askers s b i ≡ true
  asks_here = claim_asker s b i (claim b g) a.read refl

  asks_only_here : (c : ℕ) → (c ≢ b) → askers s c i ≡ false
  asks_only_here c n = at_no_other (record_of s i) (claim b g) b c a.read refl n

-- an asker of bin b is no asker of another bin, and has a record
module _ (s : State) (b p : ℕ) (h : askers s b p ≡ true) where
  asker_apart : (c j : ℕ) → (c ≢ b) → askers s c j ≡ true → j ≢ p
  asker_apart c j n k e = n (one_bin s b c p h (ap (askers s c) (sym e) ∙ k))

  asker_claims : (j : ℕ) → record_of s j ≡ None → j ≢ p
  asker_claims j k e = true≢false (sym h ∙ ap (passes (at b)) (ap (record_of s) (sym e) ∙ k))

new_claim : (b : ℕ) (h : Stage) (c : ℕ) → (c ≢ b) → passes (at c) (Some (claim b h)) ≡ false
new_claim b h c n = ne_eqb b c (λ e. n (sym e))

-- sessions without a record after a claim was written
still_idle :
    (rs : List (Option (Claim Stage))) (i : ℕ) (x : Claim Stage) (j : ℕ) → i < length rs →
    slice_index_or (slice_set rs i (Some x)) j None ≡ None → (j ≢ i) × (slice_index_or rs j None ≡ None)
still_idle rs i x j h e =
    ⊎_elim
    (λ q. some_none (slice_index_or (slice_set rs i (Some x)) j None) x e q.1)
    (λ q. (q.0, sym q.1 ∙ e))
    (write_cases rs i (Some x) None j h)

-- THE FIRST GOES ON, with its node as it was
module _ {s : State} {i b : ℕ} {g : Stage} (I : Invariant s) (a : At s i b g) where
  staged_change : (h : Stage) {ws : List ℕ} {x : ℕ} → Worded s b ws x → Change s i b ws (Some (claim b h)) s.memory.nodes
  staged_change h W =
      record {
        session = a.admitted.session;
        words_length = W.length;
        nodes_length = refl;
        words = W.other;
        nodes = λ c j n k. refl;
        old = asks_only_here a;
        new = new_claim b h;
        range = lt-ltb b (bins_of s) a.admitted.bin;
        idle = λ j e. I.idle j (still_idle s.memory.records i (claim b h) j (own_place I a.admitted.session).0 e).1;
      }

  pub advances :
      (h : Stage) {ws : List ℕ} {v : ℕ} {w : Word} (w' : Word) {rest : List ℕ} → Leader s b w i rest g v →
      Worded s b ws (packed w') → Leads h (node_of s i).next rest → Says w' h v (last i rest) →
      Step s (altered s i ws (Some (claim b h)) s.memory.nodes) i b (Some (claim b h))
      × Leader (altered s i ws (Some (claim b h)) s.memory.nodes) b w' i rest h v
  advances h w' {rest} L W leads says =
      let C = staged_change h W in
      led w' rest h I C W.at (restaged w' h L.bin.stands L.first (own_record I C) leads says)

-- 1. EXCHANGE
module _ {s : State} {i b : ℕ} (I : Invariant s) (o : Owns s i b None) where
  asks_nowhere : (c : ℕ) → askers s c i ≡ false
  asks_nowhere c = ap (passes (at c)) o.read

  pub exchanges_free :
      {v : ℕ} → Bin s b (Free v) [] →
      Step s (entered_at_once s i b v) i b (Some (claim b Inside))
      × Leader (entered_at_once s i b v) b (Held i) i [] Inside (next_version v)
  exchanges_free {v} B =
      led (Held i) [] Inside I C W.at
      (exchange_free B.stands (own_record I C) empty (set_changed s.memory.nodes i m empty_node (own_place I o.admitted.session).1))
    where
      m : Node
      m = with_version (node_of s i) (next_version v)

      empty : node_of s i ≡ empty_node
      empty = I.idle i o.read

      W : Worded s b (slice_set s.memory.words b (packed (Held i))) (packed (Held i))
      W = word_set (packed (Held i)) I o.admitted.bin

      C : Change s i b (slice_set s.memory.words b (packed (Held i))) (Some (claim b Inside)) (slice_set s.memory.nodes i m)
      C =
          record {
            session = o.admitted.session;
            words_length = W.length;
            nodes_length = length-set s.memory.nodes i m;
            words = W.other;
            nodes =
                λ c j n k.
                get_or-set_other s.memory.nodes i j m empty_node
                (λ e. true≢false (sym k ∙ ap (askers s c) e ∙ asks_nowhere c));
            old = λ c n. asks_nowhere c;
            new = new_claim b Inside;
            range = lt-ltb b (bins_of s) o.admitted.bin;
            idle =
                λ j e.
                let k = still_idle s.memory.records i (claim b Inside) j (own_place I o.admitted.session).0 e in
                get_or-set_other s.memory.nodes i j m empty_node k.0 ∙ I.idle j k.1;
          }

  pub exchanges_behind :
      {f v : ℕ} {w : Word} {rest : List ℕ} {g : Stage} → Leader s b w f rest g v →
      Step s (lined_up s i b (last f rest)) i b (Some (claim b (Link (last f rest))))
      × Leader (lined_up s i b (last f rest)) b (Held i) f (rest ++ (i ∷ [])) g v
  exchanges_behind {f} {v} {w} {rest} {g} L =
      led (Held i) (rest ++ (i ∷ [])) g I C W.at
      (exchange_behind L.bin.stands L.first o.read (I.idle i o.read) (own_record I C))
    where
      W : Worded s b (slice_set s.memory.words b (packed (Held i))) (packed (Held i))
      W = word_set (packed (Held i)) I o.admitted.bin

      C : Change s i b (slice_set s.memory.words b (packed (Held i))) (Some (claim b (Link (last f rest)))) s.memory.nodes
      C =
          record {
            session = o.admitted.session;
            words_length = W.length;
            nodes_length = refl;
            words = W.other;
            nodes = λ c j n k. refl;
            old = λ c n. asks_nowhere c;
            new = new_claim b (Link (last f rest));
            range = lt-ltb b (bins_of s) o.admitted.bin;
            idle =
                λ j e. I.idle j (still_idle s.memory.records i (claim b (Link (last f rest))) j (own_place I o.admitted.session).0 e).1;
          }

-- 2. LINK
-- the node before is the one of a session in line
pub links_to_member :
    {s : State} {i b f p v : ℕ} {w : Word} {rest : List ℕ} {g : Stage} → At s i b (Link p) → Leader s b w f rest g v →
    In p (f ∷ rest)
links_to_member {i = i} {f = f} {rest = rest} a L =
    let h = link_behind L.bin.stands L.first a.read in
    let d = behind_someone L.first.chain i h.1 in
    subst (λ x. In x (f ∷ rest)) (to_link_finds a.read d.2).0 d.1

module _ {s : State} {i b p : ℕ} (I : Invariant s) (a : At s i b (Link p)) where
  pub links_on :
      {f v : ℕ} {w : Word} {rest : List ℕ} {g : Stage} → Leader s b w f rest g v →
      Step s (linked s i b p) i b (Some (claim b (See p))) × Leader (linked s i b p) b w f rest g v
  links_on {f} {v} {w} {rest} {g} L =
      led w rest g I C L.bin.stored
      (link_keeps L.bin.stands L.first a.read (own_record I C)
      (set_changed s.memory.nodes p m empty_node node_there))
    where
      m : Node
      m = with_next (node_of s p) i

      before : In p (f ∷ rest)
      before = links_to_member a L

      asks : askers s b p ≡ true
      asks = in_asks L.bin.stands p before

      node_there : p < length s.memory.nodes
      node_there = (own_place I (member_there I L.bin p before)).1

      C : Change s i b s.memory.words (Some (claim b (See p))) (slice_set s.memory.nodes p m)
      C =
          record {
            session = a.admitted.session;
            words_length = refl;
            nodes_length = length-set s.memory.nodes p m;
            words = λ c n. refl;
            nodes = λ c j n k. get_or-set_other s.memory.nodes p j m empty_node (asker_apart s b p asks c j n k);
            old = asks_only_here a;
            new = new_claim b (See p);
            range = lt-ltb b (bins_of s) a.admitted.bin;
            idle =
                λ j e.
                let k = (still_idle s.memory.records i (claim b (See p)) j (own_place I a.admitted.session).0 e).1 in
                get_or-set_other s.memory.nodes p j m empty_node (asker_claims s b p asks j k) ∙ I.idle j k;
          }

-- OUT: session i has no record and an empty node
module _ {s : State} {i b : ℕ} {g : Stage} (I : Invariant s) (a : At s i b g) where
  exit_change :
      {ws : List ℕ} {x : ℕ} (ns : List Node) → Worded s b ws x → length ns ≡ length s.memory.nodes →
      ((c j : ℕ) → (c ≢ b) → askers s c j ≡ true → slice_index_or ns j empty_node ≡ node_of s j) →
      ((j : ℕ) → (j ≢ i) → record_of s j ≡ None → slice_index_or ns j empty_node ≡ node_of s j) →
      slice_index_or ns i empty_node ≡ empty_node → Change s i b ws None ns
  exit_change ns W l others rest own =
      record {
        session = a.admitted.session;
        words_length = W.length;
        nodes_length = l;
        words = W.other;
        nodes = others;
        old = asks_only_here a;
        new = λ c n. refl;
        range = refl;
        idle =
            λ j e.
            ⊎_elim
            (λ q. ap (λ k. get_or ns k empty_node) q ∙ own)
            (λ n. let k = sym (get_or-set_other s.memory.records i j None None n) ∙ e in rest j n k ∙ I.idle j k)
            (cases_eq j i);
      }

  -- 6. TRY
  pub frees_word :
      {v : ℕ} {w : Word} → Leader s b w i [] g v →
      Step s (freed s i b v) i b None × Bin (freed s i b v) b (Free v) []
  frees_word {v} L = (stepped I C B, B)
    where
      ns : List Node
      ns = slice_set s.memory.nodes i empty_node

      W : Worded s b (slice_set s.memory.words b (packed (Free v))) (packed (Free v))
      W = word_set (packed (Free v)) I a.admitted.bin

      C : Change s i b (slice_set s.memory.words b (packed (Free v))) None ns
      C =
          exit_change
          ns
          W
          (length-set s.memory.nodes i empty_node)
          (λ c j n k.
          get_or-set_other s.memory.nodes i j empty_node empty_node
          (asker_apart s b i (asks_here a) c j n k))
          (λ j n k. get_or-set_other s.memory.nodes i j empty_node empty_node n)
          (get_or-set_same s.memory.nodes i empty_node empty_node (own_place I a.admitted.session).1)

      B : Bin (freed s i b v) b (Free v) []
      B = record { stored = W.at; stands = freed_keeps L.bin.stands L.first.below (own_record I C) }

-- 9. HAND
module _ {s : State} {i b : ℕ} (I : Invariant s) (a : At s i b Hand) where
  pub hands_on :
      {q v : ℕ} {w : Word} {qs : List ℕ} → Leader s b w i (q ∷ qs) Hand v → (node_of s i).next ≡ Some q →
      Step s (handed s i q v) i b None × Leader (handed s i q v) b w q qs (See i) (next_version v)
  hands_on {q} {v} {w} {qs} L e =
      led w qs (See i) I C L.bin.stored
      (handed_keeps L.bin.stands L.first e (own_record I C)
      (set_changed s.memory.nodes q m empty_node next_there)
      (set_changed (slice_set s.memory.nodes q m) i empty_node empty_node own_still_there))
    where
      m : Node
      m = with_version (node_of s q) (next_version v)

      ns : List Node
      ns = slice_set (slice_set s.memory.nodes q m) i empty_node

      asks : askers s b q ≡ true
      asks = in_asks L.bin.stands q (inr (inl refl))

      next_there : q < length s.memory.nodes
      next_there = (own_place I (member_there I L.bin q (inr (inl refl)))).1

      own_still_there : i < length (slice_set s.memory.nodes q m)
      own_still_there = rw length-set (own_place I a.admitted.session).1

      -- a node that is neither the own one nor the next one
      node_stays : (j : ℕ) → (j ≢ i) → (j ≢ q) → slice_index_or ns j empty_node ≡ node_of s j
      node_stays j x y =
          get_or-set_other (slice_set s.memory.nodes q m) i j empty_node empty_node x
          ∙ get_or-set_other s.memory.nodes q j m empty_node y

      C : Change s i b s.memory.words None ns
      C =
          exit_change
          I
          a
          ns
          (word_kept s b)
          (length-set (slice_set s.memory.nodes q m) i empty_node ∙ length-set s.memory.nodes q m)
          (λ c j n k.
          node_stays j (asker_apart s b i (asks_here a) c j n k) (asker_apart s b q asks c j n k))
          (λ j n k. node_stays j n (asker_claims s b q asks j k))
          (get_or-set_same (slice_set s.memory.nodes q m) i empty_node empty_node own_still_there)
