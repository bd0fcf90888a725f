-- What a call answers, and the state that it leaves.
use Rattle.std.specs.Prelude.{Ok, Err, Result}
use Rattle.bank.specs.declared.refusals.Fault.{Fault}

pub record Outcome (A S : Type 0) : Type 0 where
  pub answer : Result A Fault
  pub after : S

abbrev pub refused : {A S : Type 0} → S → Fault → Outcome A S
refused s f = record { answer = Err f; after = s }

abbrev pub granted : {A S : Type 0} → S → A → Outcome A S
granted s a = record { answer = Ok a; after = s }
