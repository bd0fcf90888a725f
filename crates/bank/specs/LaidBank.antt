-- A bank laid out on memory of its own.
use Rattle.std.specs.Prelude.{◌≡◌, ℕ, ◌<◌, true, List, Ok, Err, codes, Result}
use Rattle.bank.specs.Kind.{Kind, Reached}
use Rattle.bank.specs.Laws.{LaidOut}
use Rattle.bank.specs.Memory.{within_limits}
use Rattle.bank.specs.Refusals.{bad_size}
use Rattle.bank.specs.Text.{fault_text}
use Rattle.bank.specs.declared.laid.LayoutError.{LayoutError}
use Rattle.bank.specs.declared.laid.LayoutError.TheVariants.{Refused, NoMemory}
use Rattle.bank.specs.declared.memory.Sizes.{Sizes}
use Rattle.bank.specs.declared.refusals.Fault.{Fault}

-- a bank of these sizes at this age, laid out so that all laws hold
abbrev pub Starts : {S : Type 0} → Kind S → Sizes → ℕ → S → Type 0
Starts k z a s = Reached k s × LaidOut k s z a

-- a layout is refused by 1, and only where a size or the age is outside its limits
abbrev pub Refuses : {S : Type 0} → Kind S → Sizes → ℕ → Fault → Type 0
Refuses k z a fault = (fault ≡ bad_size) × (within_limits z ≡ true → a < k.modulus → ⊥)

-- P holds of the fault, where there is one
abbrev pub IfRefused : {A : Type 0} → Result A LayoutError → (Fault → Type 0) → Type 0
IfRefused (Ok a) P = Unit {0}
IfRefused (Err (Refused fault)) P = P fault
IfRefused (Err NoMemory) P = Unit {0}

abbrev pub layout_error_text : LayoutError → List ℕ
layout_error_text (Refused fault) = fault_text fault
layout_error_text NoMemory = codes "no memory"
