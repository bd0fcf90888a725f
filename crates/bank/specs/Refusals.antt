-- The refusals: the number of each reason, and the faults that a lock kind gives.
use Rattle.std.specs.Prelude.{ℕ}
use Rattle.bank.specs.declared.refusals.Fault.{Fault}
use Rattle.bank.specs.declared.refusals.Layer.TheVariants.{Table as TableLayer, Kind as KindLayer}
use Rattle.bank.specs.declared.refusals.Place.{Place}
use Rattle.bank.specs.declared.refusals.Place.TheVariants.{Whole, Session, Bin}
use Rattle.bank.specs.declared.refusals.Reason.{Reason}
use Rattle.bank.specs.declared.refusals.Reason.TheVariants.{BadSize, NoSession, NoBin, QuantityTooLarge, SessionNotIdle, SessionNotWorking, SessionNotFinished, SessionStillBusy, OutOfRange, OutOfTurn}

abbrev pub number : Reason → ℕ
number BadSize = 1
number NoSession = 2
number NoBin = 3
number QuantityTooLarge = 4
number SessionNotIdle = 5
number SessionNotWorking = 6
number SessionNotFinished = 7
number SessionStillBusy = 8
number OutOfRange = 9
number OutOfTurn = 10

abbrev pub bad_size : Fault
bad_size = record { reason = BadSize; layer = TableLayer; place = Whole }

abbrev pub of_kind : Reason → Place → Fault
of_kind reason place = record { reason = reason; layer = KindLayer; place = place }

abbrev pub no_session : ℕ → Fault
no_session i = of_kind NoSession (Session i)

abbrev pub no_bin : ℕ → Fault
no_bin b = of_kind NoBin (Bin b)

-- a stored number out of its range, in a session's record or node, or in a lock word
abbrev pub bad_record : ℕ → Fault
bad_record i = of_kind OutOfRange (Session i)

abbrev pub bad_word : ℕ → Fault
bad_word b = of_kind OutOfRange (Bin b)

abbrev pub out_of_turn : ℕ → Fault
out_of_turn i = of_kind OutOfTurn (Session i)
