-- From an empty list, `resize` leaves nothing but what it fills in.
use Rattle.std.proofs.Common.{rules}
use Rattle.std.proofs.Math.Seq.{take-nil}
use Rattle.bank.proofs.memory.LockMemory.allocate.Goals as goal

pub returns : goal.returns
returns g c = search (rules, take-nil)
