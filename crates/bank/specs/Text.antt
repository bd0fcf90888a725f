-- How answers and refusals are written, as bytes.
use Rattle.std.specs.Prelude.{ℕ, List, ◌++◌, codes, decimal}
use Rattle.bank.specs.Refusals.{number}
use Rattle.bank.specs.declared.answers.Answer.{Answer}
use Rattle.bank.specs.declared.answers.Answer.TheVariants.{Asked, Pushed, Left}
use Rattle.bank.specs.declared.answers.AskAnswer.TheVariants.{In as EntersAtOnce, NotYet}
use Rattle.bank.specs.declared.answers.LeaveAnswer.TheVariants.{Moved as StillLeaving, Out as OutAtOnce}
use Rattle.bank.specs.declared.answers.PushAnswer.TheVariants.{Waits, Moved, In, Out}
use Rattle.bank.specs.declared.refusals.Fault.{Fault}
use Rattle.bank.specs.declared.refusals.Layer.{Layer}
use Rattle.bank.specs.declared.refusals.Layer.TheVariants.{Table, Kind}
use Rattle.bank.specs.declared.refusals.Place.{Place}
use Rattle.bank.specs.declared.refusals.Place.TheVariants.{Whole, Session, Bin}

abbrev pub layer_text : Layer → List ℕ
layer_text Table = codes "table"
layer_text Kind = codes "kind"

abbrev pub place_text : Place → List ℕ
place_text Whole = codes "T0"
place_text (Session i) = codes "S" ++ decimal i
place_text (Bin b) = codes "B" ++ decimal b

-- refused NUMBER LAYER PLACE
abbrev pub fault_text : Fault → List ℕ
fault_text f =
    codes "refused " ++ (decimal (number f.reason) ++ (codes " " ++ (layer_text f.layer ++ (codes " " ++ place_text f.place))))

abbrev pub answer_text : Answer → List ℕ
answer_text (Asked EntersAtOnce) = codes "in"
answer_text (Asked NotYet) = codes "not yet"
answer_text (Pushed Waits) = codes "waits"
answer_text (Pushed Moved) = codes "moved"
answer_text (Pushed In) = codes "in"
answer_text (Pushed Out) = codes "out"
answer_text (Left StillLeaving) = codes "moved"
answer_text (Left OutAtOnce) = codes "out"
