-- What the answer of an ask tells of the test that it was made by.
use Rattle.std.proofs.Common.{◌≡◌, Bool, true, false, cond, Ok, Result, refl}
use Rattle.bank.specs.declared.answers.AskAnswer.{AskAnswer}
use Rattle.bank.specs.declared.answers.AskAnswer.TheVariants.{In as EntersAtOnce, NotYet}
use Rattle.bank.specs.declared.refusals.Fault.{Fault}

-- an ask that answers in exactly where its test t says so
pub asked_in : (t : Bool) → ◌≡◌ {A = Result AskAnswer Fault} (Ok (cond t EntersAtOnce NotYet)) (Ok EntersAtOnce) → t ≡ true
asked_in true e = refl
asked_in false e = cc

pub asked_not_yet : (t : Bool) → ◌≡◌ {A = Result AskAnswer Fault} (Ok (cond t EntersAtOnce NotYet)) (Ok NotYet) → t ≡ false
asked_not_yet true e = cc
asked_not_yet false e = refl
