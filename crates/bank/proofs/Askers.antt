-- The askers of a bin, for any kind whose sessions have claims: whose they are, when they stay, and how one joins or goes.
use Rattle.std.proofs.Common.{◌≡◌, ℕ, ◌<◌, Bool, true, false, not, ◌&&◌, ◌||◌, eqb, List, length, get_or, set, Some, None, Option, sym, refl, ap, ◌∙◌, ⊎_elim, arith}
use Rattle.std.proofs.lemmas.Option.{same_Some}
use Rattle.std.proofs.lemmas.List.{get_or_past}
use Rattle.std.proofs.lemmas.Bool.{ltb-true, eq-eqb, ne_eqb, and_left, true≢false, cases_lt}
use Rattle.bank.specs.Claims.{passes, at, at_stage, askers, inside}
use Rattle.bank.specs.Locks.{Locks, record_of}
use Rattle.bank.specs.Memory.{has_lengths, in_range}
use Rattle.bank.specs.declared.memory.Claim.{Claim}
use Rattle.bank.specs.declared.memory.Sizes.{Sizes}
use Rattle.bank.proofs.Admission.{sized}
use Rattle.bank.proofs.Claims.{some_none, passes_set, found_set, write_cases, asker_claim, claim_asker}

-- one who asks at two bins asks at one
pub one_bin :
    {B T : Type 0} (s : Locks B (Option (Claim T))) (b c i : ℕ) → askers s b i ≡ true → askers s c i ≡ true → c ≡ b
one_bin {B} {T} s b c i p q =
    let v = asker_claim s b i p in
    let w = asker_claim s c i q in
    sym w.2 ∙ ap (λ (x : Claim T). x.bin) (same_Some w.0 v.0 (sym w.1 ∙ v.1)) ∙ v.2

-- an asker's session and bin are there
pub asker_session :
    {B T : Type 0} (s : Locks B (Option (Claim T))) (told : ℕ) (z : Sizes) (b i : ℕ) →
    has_lengths told z s.memory ≡ true → askers s b i ≡ true → i < z.sessions
asker_session s told z b i h p =
    let v = asker_claim s b i p in
    let y = sized told z s.memory h in
    ⊎_elim
    (λ l. omega arith)
    (λ l. some_none (record_of s i) v.0 (get_or_past s.memory.records i None l) v.1)
    (cases_lt i (length s.memory.records))

pub asker_in_range :
    {B T : Type 0} (s : Locks B (Option (Claim T))) (m b i : ℕ) → in_range m (record_of s i) ≡ true →
    askers s b i ≡ true → b < m
asker_in_range s m b i h p =
    let v = asker_claim s b i p in
    rw (← v.2) (ltb-true v.0.bin m (sym (ap (in_range m) v.1) ∙ h))

-- one who asks at no bin has no claim
pub no_claim :
    {B T : Type 0} (s : Locks B (Option (Claim T))) (m i : ℕ) → in_range m (record_of s i) ≡ true →
    ((c : ℕ) → c < m → askers s c i ≡ false) → record_of s i ≡ None
no_claim {B} {T} s m i h n = go (record_of s i) refl
  where
    go : (r : Option (Claim T)) → record_of s i ≡ r → r ≡ None
    go None e = refl
    go (Some c) e =
        let l = ltb-true c.bin m (sym (ap (in_range m) e) ∙ h) in
        absurd (true≢false (sym (claim_asker s c.bin i c e refl) ∙ n c.bin l))

-- a claim at bin b is at no other bin
pub at_no_other :
    {T : Type 0} (r : Option (Claim T)) (c : Claim T) (b d : ℕ) → r ≡ Some c → c.bin ≡ b → (d ≡ b → ⊥) →
    passes (at d) r ≡ false
at_no_other r c b d e q n = ap (passes (at d)) e ∙ ne_eqb c.bin d (λ x. n (sym x ∙ q))

-- what is not at bin b has not entered it
pub not_at :
    {T : Type 0} (p : T → Bool) (r : Option (Claim T)) (b : ℕ) → passes (at b) r ≡ false →
    passes (at_stage p b) r ≡ false
not_at p None b e = refl
not_at p (Some c) b e = and_left (eqb c.bin b) (p c.stage) e

-- A CHANGE: other words, and another record of session i.
abbrev pub changed : {B R : Type 0} → Locks B R → List ℕ → ℕ → R → Locks B R
changed s ws i r =
    record {
      bank = s.bank;
      memory = record { words = ws; records = set s.memory.records i r; nodes = s.memory.nodes };
    }

-- a bin at which session i asks neither before nor after keeps its askers and the one inside
module _
    {B T : Type 0} (s : Locks B (Option (Claim T))) (ws : List ℕ) (i : ℕ) (r : Option (Claim T)) (c : ℕ)
    (p : passes (at c) r ≡ false) (q : askers s c i ≡ false) where
  pub same_stage : (f : T → Bool) → passes (at_stage f c) r ≡ passes (at_stage f c) (record_of s i)
  same_stage f = not_at f r c p ∙ sym (not_at f (record_of s i) c q)

  pub same_askers : (j : ℕ) → askers (changed s ws i r) c j ≡ askers s c j
  same_askers j = passes_set (at c) s.memory.records i r j (p ∙ sym q)

  pub same_inside : (f : T → Bool) → inside f (changed s ws i r) c ≡ inside f s c
  same_inside f = found_set (at_stage f c) 0 s.memory.records i r (same_stage f)

-- those that pass once record i is one that does, and once it is none
pub passes_join :
    {X : Type 0} (p : X → Bool) (rs : List (Option X)) (i : ℕ) (x : X) (j : ℕ) → i < length rs → p x ≡ true →
    passes p (get_or (set rs i (Some x)) j None) ≡ (eqb j i || passes p (get_or rs j None))
passes_join p rs i x j h e =
    ⊎_elim
    (λ q. ap (passes p) q.1 ∙ e ∙ sym (ap (λ t. t || passes p (get_or rs j None)) (eq-eqb j i q.0)))
    (λ q. ap (passes p) q.1 ∙ sym (ap (λ t. t || passes p (get_or rs j None)) (ne_eqb j i q.0)))
    (write_cases rs i (Some x) None j h)

pub passes_drop :
    {X : Type 0} (p : X → Bool) (rs : List (Option X)) (i j : ℕ) → i < length rs →
    passes p (get_or (set rs i None) j None) ≡ (not (eqb j i) && passes p (get_or rs j None))
passes_drop p rs i j h =
    ⊎_elim
    (λ q. ap (passes p) q.1 ∙ sym (ap (λ t. not t && passes p (get_or rs j None)) (eq-eqb j i q.0)))
    (λ q. ap (passes p) q.1 ∙ sym (ap (λ t. not t && passes p (get_or rs j None)) (ne_eqb j i q.0)))
    (write_cases rs i None None j h)
