-- What holds at every reached state: a bin is unlocked and nobody has entered it, or locked and one session has.
use Rattle.std.specs.Prelude.{◌≡◌, ℕ, ◌^◌, ◌<◌, ◌≤◌, Bool, true, false, List, length, Some, None, Option, ◌==◌, ◌≢◌, nat_eq, slice_index, slice_set, refl}
use Rattle.std.proofs.Common.{⊎_elim, sym, ap, subst, ◌∙◌, arith}
use Rattle.std.proofs.lemmas.List.{length-set, length-replicate, get_or-replicate, get_or-set_same, get_or-set_other}
use Rattle.std.proofs.lemmas.Bool.{eqb-true, eq-eqb, ne_eqb, lt-ltb, and_left, and_right, true≢false, cases_eq}
use Rattle.bank.specs.Claims.{passes, claim, at_stage}
use Rattle.bank.specs.Locks.{fitting, word_at, record_of, with_both}
use Rattle.bank.specs.Memory.{in_range}
use Rattle.bank.specs.declared.memory.Claim.{Claim}
use Rattle.bank.specs.declared.memory.Sizes.{Sizes}
use Rattle.bank.proofs.Admission.{Sized, sized}
use Rattle.bank.proofs.Askers.{at_no_other, not_at, changed}
use Rattle.bank.proofs.Claims.{passes_set, get_or_replicate_none, write_cases, at_stage_from}
use Rattle.central.specs.declared.Stage.{Stage}
use Rattle.central.specs.declared.Stage.TheVariants.{Look, Swap, Inside}
use Rattle.central.specs.Calls.{laid_out, staged}
use Rattle.central.specs.State.{State, sessions_of, bins_of, nodes_for, entered}
use Rattle.central.specs.Word.{lock_bit, unlocked, locked, released}

-- whether session i has entered bin b
abbrev pub holds : State → ℕ → ℕ → Bool
holds s b i = passes (at_stage entered b) (record_of s i)

-- a word, and the sessions that have entered its bin
pub data BinState (w : ℕ) (p : ℕ → Bool) : Type 0 where
  free : w < lock_bit → ((j : ℕ) → p j ≡ false) → BinState w p
  held : (i : ℕ) → lock_bit ≤ w → w < 2 ^ 64 → ((j : ℕ) → p j ≡ (j == i)) → BinState w p

-- the word that a stage, or a record, remembers is unlocked
abbrev pub sound_stage : Stage → Bool
sound_stage Look = true
sound_stage (Swap w) = unlocked w
sound_stage Inside = true

abbrev pub sound : Option (Claim Stage) → Bool
sound None = true
sound (Some c) = sound_stage c.stage

pub record Invariant (s : State) : Type 0 where
  pub fit : fitting nodes_for s s.bank.sizes ≡ true
  pub bin : (b : ℕ) → b < bins_of s → BinState (word_at s b) (holds s b)
  pub ranged : (i : ℕ) → in_range (bins_of s) (record_of s i) ≡ true
  pub remembered : (i : ℕ) → sound (record_of s i) ≡ true

-- the lengths that a fitting memory has
pub lengths : (s : State) (z : Sizes) → fitting nodes_for s z ≡ true → Sized 0 z s.memory
lengths s z h = sized 0 z s.memory h

-- LAYOUT
pub laid_record : (s : State) (z : Sizes) (a i : ℕ) → record_of (laid_out s z a) i ≡ None
laid_record s z a i = get_or_replicate_none (length s.memory.records) i

pub laid_word : (s : State) (z : Sizes) (a b : ℕ) → fitting nodes_for s z ≡ true → b < z.bins → word_at (laid_out s z a) b ≡ a
laid_word s z a b h k = let y = lengths s z h in get_or-replicate (length s.memory.words) b a 0 (omega arith)

pub laid_fit :
    (s : State) (z : Sizes) (a : ℕ) → fitting nodes_for s z ≡ true → fitting nodes_for (laid_out s z a) z ≡ true
laid_fit s z a h = simp length-replicate h

pub laid_invariant :
    (s : State) (z : Sizes) (a : ℕ) → fitting nodes_for s z ≡ true → a < lock_bit → Invariant (laid_out s z a)
laid_invariant s z a h l =
    record {
      fit = laid_fit s z a h;
      bin = λ b k. free (rw (laid_word s z a b h k) l) (λ j. ap (passes (at_stage entered b)) (laid_record s z a j));
      ranged = λ i. ap (in_range z.bins) (laid_record s z a i);
      remembered = λ i. ap sound (laid_record s z a i);
    }

-- A CHANGE: other words, and another record of session i.
alike : (w v : ℕ) (p q : ℕ → Bool) → v ≡ w → ((j : ℕ) → q j ≡ p j) → BinState w p → BinState v q
alike w v p q e f (free l h) = free (omega arith) (λ j. f j ∙ h j)
alike w v p q e f (held i l k h) = held i (omega arith) (omega arith) (λ j. f j ∙ h j)

-- a bin whose word stays, and that session i neither enters nor leaves
bin_kept :
    (s : State) (ws : List ℕ) (i : ℕ) (r : Option (Claim Stage)) (c : ℕ) → slice_index ws c ≡ word_at s c →
    passes (at_stage entered c) r ≡ holds s c i → BinState (word_at s c) (holds s c) →
    BinState (slice_index ws c) (holds (changed s ws i r) c)
bin_kept s ws i r c e f =
    let kept : (j : ℕ) → holds (changed s ws i r) c j ≡ holds s c j =
    λ j. passes_set (at_stage entered c) s.memory.records i r j f in
    alike (word_at s c) (slice_index ws c) (holds s c) (holds (changed s ws i r) c) e kept

pub record_there : (s : State) (i : ℕ) → Invariant s → i < sessions_of s → i < length s.memory.records
record_there s i I h = let z = lengths s s.bank.sizes I.fit in omega arith

-- the invariant holds after a change if it does of the new record and of every bin
changed_invariant :
    (s : State) (ws : List ℕ) (i : ℕ) (r : Option (Claim Stage)) → Invariant s → i < sessions_of s →
    length ws ≡ length s.memory.words → in_range (bins_of s) r ≡ true → sound r ≡ true →
    ((c : ℕ) → c < bins_of s → BinState (slice_index ws c) (holds (changed s ws i r) c)) → Invariant (changed s ws i r)
changed_invariant s ws i r I hi el er es h =
    record {
      fit = rw (el, length-set) I.fit;
      bin = h;
      ranged = every (in_range (bins_of s)) er I.ranged;
      remembered = every sound es I.remembered;
    }
  where
    every :
        (P : Option (Claim Stage) → Bool) → P r ≡ true → ((j : ℕ) → P (record_of s j) ≡ true) →
        (j : ℕ) → P (record_of (changed s ws i r) j) ≡ true
    every P e f j =
        ⊎_elim
        (λ q. ap P q.1 ∙ e)
        (λ q. ap P q.1 ∙ f j)
        (write_cases s.memory.records i r None j (record_there s i I hi))

-- nobody has entered an unlocked bin
pub no_holder : (w : ℕ) (p : ℕ → Bool) → BinState w p → w < lock_bit → (j : ℕ) → p j ≡ false
no_holder w p (free l h) k j = h j
no_holder w p (held i l m h) k j = absurd (omega arith)

-- a bin that a session has entered is locked, and no other has entered it
pub one_holder :
    (w : ℕ) (p : ℕ → Bool) (i : ℕ) → BinState w p → p i ≡ true → (lock_bit ≤ w) × ((j : ℕ) → p j ≡ (j == i))
one_holder w p i (free l h) e = absurd (true≢false (sym e ∙ h i))
one_holder w p i (held k l m h) e = (l, λ j. h j ∙ ap (nat_eq j) (sym (eqb-true i k (sym (h i) ∙ e))))

-- a session whose stage is before its entry has entered no bin
pub outside :
    (s : State) (i : ℕ) (c : Claim Stage) → record_of s i ≡ Some c → entered c.stage ≡ false →
    (b : ℕ) → holds s b i ≡ false
outside s i c e f b = ap (passes (at_stage entered b)) e ∙ and_right (c.bin == b) (entered c.stage) f

pub claim_holds :
    (s : State) (i b : ℕ) (c : Claim Stage) → record_of s i ≡ Some c → c.bin ≡ b → entered c.stage ≡ true →
    holds s b i ≡ true
claim_holds s i b c e q f = ap (passes (at_stage entered b)) e ∙ at_stage_from entered b c q f

-- MOVED: a session that has entered no bin takes a stage before its entry.
pub moved_invariant :
    (s : State) (i b : ℕ) (g : Stage) → Invariant s → i < sessions_of s → b < bins_of s →
    ((c : ℕ) → holds s c i ≡ false) → sound_stage g ≡ true → entered g ≡ false → Invariant (staged s i b g)
moved_invariant s i b g I hi hb old es ei =
    let ws = s.memory.words in
    let r : Option (Claim Stage) = Some (claim b g) in
    let same : (c : ℕ) → passes (at_stage entered c) r ≡ holds s c i =
    λ c. and_right (b == c) (entered g) ei ∙ sym (old c) in
    changed_invariant s ws i r I hi refl (lt-ltb b (bins_of s) hb) es (λ c k. bin_kept s ws i r c refl (same c) (I.bin c k))

-- another word at bin b
module _ (s : State) (b w i : ℕ) (r : Option (Claim Stage)) (I : Invariant s) (hi : i < sessions_of s) (hb : b < bins_of s) where
  pub own_word_is : word_at (with_both s b w i r) b ≡ w
  own_word_is =
      let z = lengths s s.bank.sizes I.fit in
      get_or-set_same s.memory.words b w 0 (omega arith)

  both_invariant :
      in_range (bins_of s) r ≡ true → sound r ≡ true →
      ((c : ℕ) → (c ≢ b) → passes (at_stage entered c) r ≡ holds s c i) →
      BinState w (holds (with_both s b w i r) b) → Invariant (with_both s b w i r)
  both_invariant er es f h = changed_invariant s ws i r I hi (length-set s.memory.words b w) er es bins
    where
      ws : List ℕ
      ws = slice_set s.memory.words b w

      bins : (c : ℕ) → c < bins_of s → BinState (slice_index ws c) (holds (with_both s b w i r) c)
      bins c k =
          ⊎_elim
          (λ q. subst (λ d. BinState (slice_index ws d) (holds (with_both s b w i r) d)) (sym q) (rw own_word_is h))
          (λ n. bin_kept s ws i r c (get_or-set_other s.memory.words b c w 0 n) (f c n) (I.bin c k))
          (cases_eq c b)

-- IN: a session that has entered no bin locks the unlocked word of bin b.
pub entry_invariant :
    (s : State) (i b : ℕ) → Invariant s → i < sessions_of s → b < bins_of s →
    ((c : ℕ) → holds s c i ≡ false) → word_at s b < lock_bit →
    Invariant (with_both s b (locked (word_at s b)) i (Some (claim b Inside)))
entry_invariant s i b I hi hb old low =
    both_invariant s b w i r I hi hb (lt-ltb b (bins_of s) hb) refl elsewhere (held i (omega arith) (omega arith) holders)
  where
    w : ℕ
    w = locked (word_at s b)

    r : Option (Claim Stage)
    r = Some (claim b Inside)

    elsewhere : (c : ℕ) → (c ≢ b) → passes (at_stage entered c) r ≡ holds s c i
    elsewhere c n = and_left (b == c) true (ne_eqb b c (λ q. n (sym q))) ∙ sym (old c)

    holders : (j : ℕ) → holds (with_both s b w i r) b j ≡ (j == i)
    holders j =
        let others = no_holder (word_at s b) (holds s b) (I.bin b hb) low in
        let own = at_stage_from entered b (claim b Inside) refl refl in
        ⊎_elim
        (λ q. ap (passes (at_stage entered b)) q.1 ∙ own ∙ sym (eq-eqb j i q.0))
        (λ q. ap (passes (at_stage entered b)) q.1 ∙ others j ∙ sym (ne_eqb j i q.0))
        (write_cases s.memory.records i r None j (record_there s i I hi))

-- OUT: the session inside bin b unlocks its word.
pub exit_invariant :
    (s : State) (i b : ℕ) (c : Claim Stage) → Invariant s → i < sessions_of s → b < bins_of s →
    record_of s i ≡ Some c → c.bin ≡ b → entered c.stage ≡ true →
    Invariant (with_both s b (released (word_at s b)) i None)
exit_invariant s i b c I hi hb e eb ei =
    both_invariant s b w i None I hi hb refl refl elsewhere (free (omega arith) holders)
  where
    w : ℕ
    w = released (word_at s b)

    elsewhere : (d : ℕ) → (d ≢ b) → false ≡ holds s d i
    elsewhere d n = sym (not_at entered (record_of s i) d (at_no_other (record_of s i) c b d e eb n))

    holders : (j : ℕ) → holds (with_both s b w i None) b j ≡ false
    holders j =
        let others = (one_holder (word_at s b) (holds s b) i (I.bin b hb) (claim_holds s i b c e eb ei)).1 in
        ⊎_elim
        (λ q. ap (passes (at_stage entered b)) q.1)
        (λ q. ap (passes (at_stage entered b)) q.1 ∙ others j ∙ ne_eqb j i q.0)
        (write_cases s.memory.records i None None j (record_there s i I hi))
