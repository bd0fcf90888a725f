-- The sessions' claims: who asks at a bin, and who is inside it.
use Rattle.std.specs.Prelude.{ℕ, suc, Bool, false, if◌then◌else◌, ◌&&◌, List, [], ◌∷◌, Some, None, Option, ◌==◌}
use Rattle.bank.specs.Locks.{Locks, record_of}
use Rattle.bank.specs.declared.memory.Claim.{Claim}

-- whether there is a record, and it passes
abbrev pub passes : {X : Type 0} → (X → Bool) → Option X → Bool
passes p None = false
passes p (Some x) = p x

-- the first session from i on whose record passes
abbrev pub found : {X : Type 0} → (X → Bool) → ℕ → List (Option X) → Option ℕ
found p i [] = None
found p i (r ∷ rs) = if passes p r then Some i else found p (suc i) rs

abbrev pub claim : {T : Type 0} → ℕ → T → Claim T
claim b stage = record { bin = b; stage = stage }

-- a claim at bin b, and one whose stage passes
abbrev pub at : {T : Type 0} → ℕ → Claim T → Bool
at b c = c.bin == b

abbrev pub at_stage : {T : Type 0} → (T → Bool) → ℕ → Claim T → Bool
at_stage p b c = c.bin == b && p c.stage

abbrev pub askers : {B T : Type 0} → Locks B (Option (Claim T)) → ℕ → ℕ → Bool
askers s b i = passes (at b) (record_of s i)

-- the one at bin b whose stage says that it has entered
abbrev pub inside : {B T : Type 0} → (T → Bool) → Locks B (Option (Claim T)) → ℕ → Option ℕ
inside entered s b = found (at_stage entered b) 0 s.memory.records
