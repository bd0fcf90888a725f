-- One more call from a reached state.
use Rattle.bank.proofs.Steps.{ask_reaches, push_reaches, leave_reaches}
use Rattle.bank.proofs.calls.carry_out.Goals as goal

pub returns-in-Ask-clause-reached : goal.returns-in-Ask-clause-reached
returns-in-Ask-clause-reached g c = ask_reaches _ _ c.ask.ensures.after

pub returns-in-Push-clause-reached : goal.returns-in-Push-clause-reached
returns-in-Push-clause-reached g c = push_reaches _ _ c.push.ensures.after

pub returns-in-Leave-clause-reached : goal.returns-in-Leave-clause-reached
returns-in-Leave-clause-reached g c = leave_reaches _ _ c.leave.ensures.after
