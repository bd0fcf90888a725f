-- Records that pass a test, a record that is replaced, and the claims of the sessions.
use Rattle.std.proofs.Common.{◌≡◌, ℕ, zero, suc, ◌+◌, ◌<◌, Bool, true, false, cond, eqb, ◌⊎◌, List, [], ◌∷◌, length, get_or, set, replicate, Some, None, Option, sym, refl, ap, ◌∙◌, inl, inr, ⊎_elim, zero-add, arith}
use Rattle.std.proofs.lemmas.Option.{same_Some}
use Rattle.std.proofs.lemmas.List.{get_or-set_same, get_or-set_other}
use Rattle.std.proofs.lemmas.Bool.{true≢false, eqb-true, eq-eqb, and_parts, and_from, cases_eq, false_from_ne_true}
use Rattle.bank.specs.Claims.{passes, found, at, at_stage, askers, inside}
use Rattle.bank.specs.Locks.{Locks, record_of}
use Rattle.bank.specs.declared.memory.Claim.{Claim}

pub some_none : {X : Type 0} {A : Type 0} (r : Option X) (x : X) → r ≡ None → r ≡ Some x → A
some_none r x e f = absurd (grind arith)

pub passes_set :
    {X : Type 0} (p : X → Bool) (rs : List (Option X)) (i : ℕ) (r : Option X) (j : ℕ) →
    passes p r ≡ passes p (get_or rs i None) → passes p (get_or (set rs i r) j None) ≡ passes p (get_or rs j None)
passes_set p [] i r j e = refl
passes_set p (x ∷ rs) zero r zero e = e
passes_set p (x ∷ rs) zero r (suc j) e = refl
passes_set p (x ∷ rs) (suc i) r zero e = refl
passes_set p (x ∷ rs) (suc i) r (suc j) e = passes_set p rs i r j e

pub found_set :
    {X : Type 0} (p : X → Bool) (k : ℕ) (rs : List (Option X)) (i : ℕ) (r : Option X) →
    passes p r ≡ passes p (get_or rs i None) → found p k (set rs i r) ≡ found p k rs
found_set p k [] i r e = refl
found_set p k (x ∷ rs) zero r e = ap (λ t. cond t (Some k) (found p (suc k) rs)) e
found_set p k (x ∷ rs) (suc i) r e = ap (λ o. cond (passes p x) (Some k) o) (found_set p (suc k) rs i r e)

pub found_replicate : {X : Type 0} (p : X → Bool) (k n : ℕ) → found p k (replicate n None) ≡ None
found_replicate p k zero = refl
found_replicate p k (suc n) = found_replicate p (suc k) n

pub get_or_replicate_none : {X : Type 0} (n i : ℕ) → get_or (replicate {A = Option X} n None) i None ≡ None
get_or_replicate_none zero i = refl
get_or_replicate_none (suc n) zero = refl
get_or_replicate_none (suc n) (suc i) = get_or_replicate_none n i

-- none passes
pub found_none :
    {X : Type 0} (p : X → Bool) (k : ℕ) (rs : List (Option X)) → ((j : ℕ) → passes p (get_or rs j None) ≡ false) →
    found p k rs ≡ None
found_none p k [] h = refl
found_none p k (x ∷ rs) h =
    ap (λ t. cond t (Some k) (found p (suc k) rs)) (h zero) ∙ found_none p (suc k) rs (λ j. h (suc j))

found_at :
    {X : Type 0} (p : X → Bool) (k : ℕ) (rs : List (Option X)) (i : ℕ) → passes p (get_or rs i None) ≡ true →
    ((j : ℕ) → passes p (get_or rs j None) ≡ true → j ≡ i) → found p k rs ≡ Some (k + i)
found_at p k [] i e h = absurd (true≢false (sym e))
found_at p k (x ∷ rs) zero e h = ap (λ t. cond t (Some k) (found p (suc k) rs)) e ∙ ap Some (omega arith)
found_at p k (x ∷ rs) (suc i) e h = go (passes p x) refl (found_at p (suc k) rs i e (λ j w. omega (arith, h (suc j) w)))
  where
    go :
        (t : Bool) → passes p x ≡ t → found p (suc k) rs ≡ Some (suc k + i) →
        cond t (Some k) (found p (suc k) rs) ≡ Some (k + suc i)
    go true q f = absurd (omega (arith, h zero q))
    go false q f = f ∙ ap Some (omega arith)

-- one passes, and no other does
pub found_one :
    {X : Type 0} (p : X → Bool) (rs : List (Option X)) (i : ℕ) → passes p (get_or rs i None) ≡ true →
    ((j : ℕ) → passes p (get_or rs j None) ≡ true → j ≡ i) → found p 0 rs ≡ Some i
found_one p rs i e h = found_at p 0 rs i e h ∙ ap Some (zero-add i)

found_from :
    {X : Type 0} (p : X → Bool) (k : ℕ) (rs : List (Option X)) (i : ℕ) → found p k rs ≡ Some i →
    (j : ℕ) × (i ≡ k + j) × (passes p (get_or rs j None) ≡ true)
found_from p k [] i e = absurd (grind arith)
found_from p k (x ∷ rs) i e = go (passes p x) refl e (found_from p (suc k) rs i)
  where
    go :
        (t : Bool) → passes p x ≡ t → cond t (Some k) (found p (suc k) rs) ≡ Some i →
        (found p (suc k) rs ≡ Some i → (j : ℕ) × (i ≡ suc k + j) × (passes p (get_or rs j None) ≡ true)) →
        (j : ℕ) × (i ≡ k + j) × (passes p (get_or (x ∷ rs) j None) ≡ true)
    go true q e f = (zero, grind arith, q)
    go false q e f = let w = f e in (suc w.0, omega (arith, w.1), w.2)

found_passes :
    {X : Type 0} (p : X → Bool) (rs : List (Option X)) (i : ℕ) → found p 0 rs ≡ Some i →
    passes p (get_or rs i None) ≡ true
found_passes p rs i e =
    let w = found_from p 0 rs i e in
    ap (λ j. passes p (get_or rs j None)) (w.1 ∙ zero-add w.0) ∙ w.2

-- an element after a write
pub write_cases :
    {X : Type 0} (xs : List X) (i : ℕ) (x d : X) (j : ℕ) → i < length xs →
    ((j ≡ i) × (get_or (set xs i x) j d ≡ x)) ⊎ ((j ≡ i → ⊥) × (get_or (set xs i x) j d ≡ get_or xs j d))
write_cases xs i x d j h =
    ⊎_elim
    (λ e. inl (e, ap (λ k. get_or (set xs i x) k d) e ∙ get_or-set_same xs i x d h))
    (λ n. inr (n, get_or-set_other xs i j x d n))
    (cases_eq j i)

-- a record that there is after one was written: it is the new one, or was there before
pub claim_cases :
    {X : Type 0} (rs : List (Option X)) (i : ℕ) (x : X) (j : ℕ) (y : X) → i < length rs →
    get_or (set rs i (Some x)) j None ≡ Some y → ((j ≡ i) × (x ≡ y)) ⊎ ((j ≡ i → ⊥) × (get_or rs j None ≡ Some y))
claim_cases rs i x j y h f =
    ⊎_elim
    (λ p. inl (p.0, same_Some x y (sym p.1 ∙ f)))
    (λ p. inr (p.0, sym p.1 ∙ f))
    (write_cases rs i (Some x) None j h)

-- a claim at bin b whose stage passes
pub at_stage_from :
    {T : Type 0} (p : T → Bool) (b : ℕ) (c : Claim T) → c.bin ≡ b → p c.stage ≡ true → at_stage p b c ≡ true
at_stage_from p b c q r = and_from (eqb c.bin b) (p c.stage) (eq-eqb c.bin b q) r

pub at_stage_parts :
    {T : Type 0} (p : T → Bool) (b : ℕ) (c : Claim T) → at_stage p b c ≡ true → (c.bin ≡ b) × (p c.stage ≡ true)
at_stage_parts p b c e = let k = and_parts (eqb c.bin b) (p c.stage) e in (eqb-true c.bin b k.0, k.1)

pub stage_claim :
    {T : Type 0} (p : T → Bool) (b : ℕ) (r : Option (Claim T)) → passes (at_stage p b) r ≡ true →
    (c : Claim T) × (r ≡ Some c) × (c.bin ≡ b) × (p c.stage ≡ true)
stage_claim p b None e = absurd (true≢false (sym e))
stage_claim p b (Some c) e = let k = at_stage_parts p b c e in (c, refl, k.0, k.1)

-- an asker has a claim at the bin
pub asker_claim :
    {B T : Type 0} (s : Locks B (Option (Claim T))) (b i : ℕ) → askers s b i ≡ true →
    (c : Claim T) × (record_of s i ≡ Some c) × (c.bin ≡ b)
asker_claim {B} {T} s b i e = go (record_of s i) e
  where
    go : (r : Option (Claim T)) → passes (at b) r ≡ true → (c : Claim T) × (r ≡ Some c) × (c.bin ≡ b)
    go None e = absurd (true≢false (sym e))
    go (Some c) e = (c, refl, eqb-true c.bin b e)

pub claim_asker :
    {B T : Type 0} (s : Locks B (Option (Claim T))) (b i : ℕ) (c : Claim T) → record_of s i ≡ Some c → c.bin ≡ b →
    askers s b i ≡ true
claim_asker s b i c e q = ap (passes (at b)) e ∙ eq-eqb c.bin b q

-- the one inside has a claim at the bin, and has entered
pub inside_claim :
    {B T : Type 0} (entered : T → Bool) (s : Locks B (Option (Claim T))) (b i : ℕ) → inside entered s b ≡ Some i →
    (c : Claim T) × (record_of s i ≡ Some c) × (c.bin ≡ b) × (entered c.stage ≡ true)
inside_claim entered s b i e =
    stage_claim entered b (record_of s i) (found_passes (at_stage entered b) s.memory.records i e)

-- nobody is inside where no claim at the bin has entered
pub nobody_inside :
    {B T : Type 0} (entered : T → Bool) (s : Locks B (Option (Claim T))) (b : ℕ) →
    ((j : ℕ) (c : Claim T) → record_of s j ≡ Some c → c.bin ≡ b → entered c.stage ≡ true → ⊥) →
    inside entered s b ≡ None
nobody_inside entered s b h =
    found_none (at_stage entered b) 0 s.memory.records (λ j. false_from_ne_true (passes (at_stage entered b) (record_of s j)) (none j))
  where
    none : (j : ℕ) → passes (at_stage entered b) (record_of s j) ≡ true → ⊥
    none j p = let w = stage_claim entered b (record_of s j) p in h j w.0 w.1 w.2 w.3

-- a claim that has entered is inside where no other at its bin has
pub one_inside :
    {B T : Type 0} (entered : T → Bool) (s : Locks B (Option (Claim T))) (b i : ℕ) (c : Claim T) →
    record_of s i ≡ Some c → c.bin ≡ b → entered c.stage ≡ true →
    ((j : ℕ) (d : Claim T) → record_of s j ≡ Some d → d.bin ≡ b → entered d.stage ≡ true → j ≡ i) →
    inside entered s b ≡ Some i
one_inside entered s b i c e q r h =
    found_one
    (at_stage entered b)
    s.memory.records
    i
    (ap (passes (at_stage entered b)) e ∙ at_stage_from entered b c q r)
    (λ j p. let w = stage_claim entered b (record_of s j) p in h j w.0 w.1 w.2 w.3)
