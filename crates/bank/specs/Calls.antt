-- One call of a kind, by its name, and the lengths told for its sizes.
use Rattle.std.specs.Prelude.{ℕ, if◌then◌else◌, Ok, Err, Result}
use Rattle.bank.specs.Kind.{Kind}
use Rattle.bank.specs.Memory.{within_limits}
use Rattle.bank.specs.Refusals.{bad_size}
use Rattle.bank.specs.declared.answers.Answer.{Answer}
use Rattle.bank.specs.declared.answers.Answer.TheVariants.{Asked, Pushed, Left}
use Rattle.bank.specs.declared.answers.Call.{Call}
use Rattle.bank.specs.declared.answers.Call.TheVariants.{Ask, Push, Leave}
use Rattle.bank.specs.declared.memory.Lengths.{Lengths}
use Rattle.bank.specs.declared.memory.Sizes.{Sizes}
use Rattle.bank.specs.declared.refusals.Fault.{Fault}

abbrev pub answered : {A : Type 0} → (A → Answer) → Result A Fault → Result Answer Fault
answered f (Ok a) = Ok (f a)
answered f (Err e) = Err e

module _ {S : Type 0} (k : Kind S) where
  abbrev pub answer_of : Call → S → ℕ → ℕ → Result Answer Fault
  answer_of Ask s i b = answered Asked (k.asks s i b).answer
  answer_of Push s i b = answered Pushed (k.pushes s i b).answer
  answer_of Leave s i b = answered Left (k.leaves s i b).answer

  abbrev pub state_after : Call → S → ℕ → ℕ → S
  state_after Ask s i b = (k.asks s i b).after
  state_after Push s i b = (k.pushes s i b).after
  state_after Leave s i b = (k.leaves s i b).after

  -- a word for each bin, a record for each session and the kind's nodes; refused by 1 for sizes outside their limits
  abbrev pub lengths_told : Sizes → Result Lengths Fault
  lengths_told z =
      if within_limits z then Ok (record { words = z.bins; records = z.sessions; nodes = k.nodes z }) else Err bad_size
