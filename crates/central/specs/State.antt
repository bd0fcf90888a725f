-- A state of the central kind, and what a call reads of it before it acts.
use Rattle.std.specs.Prelude.{ℕ, Bool, true, false, Option, Result}
use Rattle.bank.specs.Locks.{Locks}
use Rattle.bank.specs.Memory as memory
use Rattle.bank.specs.declared.memory.Claim.{Claim}
use Rattle.bank.specs.declared.memory.Sizes.{Sizes}
use Rattle.bank.specs.declared.refusals.Fault.{Fault}
use Rattle.central.specs.declared.Central.{Central}
use Rattle.central.specs.declared.Stage.{Stage}
use Rattle.central.specs.declared.Stage.TheVariants.{Look, Swap, Inside}

abbrev pub State : Type 0
State = Locks Central (Option (Claim Stage))

abbrev pub sessions_of : State → ℕ
sessions_of s = s.bank.sizes.sessions

abbrev pub bins_of : State → ℕ
bins_of s = s.bank.sizes.bins

-- the kind has no nodes
abbrev pub nodes_for : Sizes → ℕ
nodes_for z = 0

abbrev pub entered : Stage → Bool
entered Look = false
entered (Swap w) = false
entered Inside = true

-- the caller's own record, past the refusals 1, 2 and 3, or 9 at the session
abbrev pub own_record : State → ℕ → ℕ → Result (Option (Claim Stage)) Fault
own_record s i b = memory.own_record 0 s.bank.sizes s.memory i b

-- the stage of the caller's claim at the bin, or 10 at the session
abbrev pub own_stage : State → ℕ → ℕ → Result Stage Fault
own_stage s i b = memory.own_stage 0 s.bank.sizes s.memory i b
