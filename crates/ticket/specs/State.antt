-- A state of the ticket kind, and what a call reads of it before it acts.
use Rattle.std.specs.Prelude.{◌≡◌, ℕ, Bool, true, false, refl, if◌then◌else◌, not, Ok, Err, Option, Result}
use Rattle.bank.specs.Locks.{Locks, word_at}
use Rattle.bank.specs.Memory as memory
use Rattle.bank.specs.Refusals.{bad_word}
use Rattle.bank.specs.declared.memory.Claim.{Claim}
use Rattle.bank.specs.declared.memory.Sizes.{Sizes}
use Rattle.bank.specs.declared.refusals.Fault.{Fault}
use Rattle.ticket.specs.declared.Ticket.{Ticket}
use Rattle.ticket.specs.declared.Turn.{Turn}
use Rattle.ticket.specs.declared.Turn.TheVariants.{Waiting, Inside}
use Rattle.ticket.specs.Word.{lawful}

abbrev pub State : Type 0
State = Locks Ticket (Option (Claim Turn))

abbrev pub sessions_of : State → ℕ
sessions_of s = s.bank.sizes.sessions

abbrev pub bins_of : State → ℕ
bins_of s = s.bank.sizes.bins

-- the kind has no nodes
abbrev pub nodes_for : Sizes → ℕ
nodes_for z = 0

abbrev pub ticket_of : Turn → ℕ
ticket_of (Waiting t) = t
ticket_of (Inside t) = t

abbrev pub entered : Turn → Bool
entered (Waiting t) = false
entered (Inside t) = true

abbrev pub not_entered : Turn → Bool
not_entered t = not (entered t)

-- with ticket t, inside or not
abbrev pub turn : ℕ → Bool → Turn
turn t false = Waiting t
turn t true = Inside t

pub ticket_of-turn : (t : ℕ) (x : Bool) → ticket_of (turn t x) ≡ t
ticket_of-turn t false = refl
ticket_of-turn t true = refl

pub entered-turn : (t : ℕ) (x : Bool) → entered (turn t x) ≡ x
entered-turn t false = refl
entered-turn t true = refl

-- the caller's own record, past the refusals 1, 2 and 3, or 9 at the session
abbrev pub own_record : State → ℕ → ℕ → Result (Option (Claim Turn)) Fault
own_record s i b = memory.own_record 0 s.bank.sizes s.memory i b

-- the stage of the caller's claim at the bin, or 10 at the session
abbrev pub own_stage : State → ℕ → ℕ → Result Turn Fault
own_stage s i b = memory.own_stage 0 s.bank.sizes s.memory i b

-- the lock word of a bin, or 9 at the bin
abbrev pub lawful_word : State → ℕ → Result ℕ Fault
lawful_word s b = if lawful (sessions_of s) (word_at s b) then Ok (word_at s b) else Err (bad_word b)
