-- Worked figures, computed by the definitions of the calls.
use Rattle.std.specs.Prelude.{ℕ, List, [], ◌∷◌, None}
use Rattle.bank.specs.Locks.{word_at}
use Rattle.ticket.specs.Calls.{lays, asks, leaves}
use Rattle.ticket.specs.State.{State}

-- one session and one bin of the ticket kind, before layout, with some word in the memory
abbrev pub unlaid : State
unlaid =
    record {
      bank = record { sizes = record { sessions = 0; bins = 0 } };
      memory = record { words = 5 ∷ []; records = None ∷ []; nodes = [] };
    }

abbrev pub laid : State
laid = (lays unlaid (record { sessions = 1; bins = 1 }) 4294967295).after

abbrev pub inside : State
inside = (asks laid 0 0).after

abbrev pub left : State
left = (leaves inside 0 0).after

-- the ticket word at the last age: after one ask, and after the leave
abbrev pub computed : List ℕ
computed = word_at inside 0 ∷ (word_at left 0 ∷ [])
