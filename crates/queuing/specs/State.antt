-- A state of the queuing kind, and what a call reads of it.
use Rattle.std.specs.Prelude.{ℕ, ◌<◌, ◌≤◌, Bool, true, false, if◌then◌else◌, length, Some, None, Ok, Err, Option, Result, nat_lt}
use Rattle.bank.specs.Claims.{claim}
use Rattle.bank.specs.Locks.{Locks, word_at, node_of, with_record, with_node}
use Rattle.bank.specs.Memory as memory
use Rattle.bank.specs.Refusals.{bad_word, bad_record}
use Rattle.bank.specs.declared.memory.Claim.{Claim}
use Rattle.bank.specs.declared.memory.Node.{Node}
use Rattle.bank.specs.declared.memory.Sizes.{Sizes}
use Rattle.bank.specs.declared.refusals.Fault.{Fault}
use Rattle.queuing.specs.declared.Queuing.{Queuing}
use Rattle.queuing.specs.declared.Stage.{Stage}
use Rattle.queuing.specs.declared.Stage.TheVariants.{Link, See, Close, Inside, Try, Open, Await, Hand}
use Rattle.queuing.specs.declared.word.Word.{Word}
use Rattle.queuing.specs.Word.{unpacked, versions}

abbrev pub State : Type 0
State = Locks Queuing (Option (Claim Stage))

abbrev pub sessions_of : State → ℕ
sessions_of s = s.bank.sizes.sessions

abbrev pub bins_of : State → ℕ
bins_of s = s.bank.sizes.bins

-- session i is there, and the memory has a record and a node for each session
pub record HasSession (s : State) (i : ℕ) : Type 0 where
  pub session : i < sessions_of s
  pub records : sessions_of s ≤ length s.memory.records
  pub nodes : sessions_of s ≤ length s.memory.nodes

-- a node for each session
abbrev pub nodes_for : Sizes → ℕ
nodes_for z = z.sessions

-- a stage between the entry and the leave, and one after the leave
abbrev pub entered : Stage → Bool
entered (Link p) = false
entered (See p) = false
entered Close = false
entered Inside = true
entered Try = false
entered Open = false
entered Await = false
entered Hand = false

abbrev pub has_left : Stage → Bool
has_left (Link p) = false
has_left (See p) = false
has_left Close = false
has_left Inside = false
has_left Try = true
has_left Open = true
has_left Await = true
has_left Hand = true

-- the node before its own that a session remembers
abbrev pub remembered : Stage → Option ℕ
remembered (Link p) = Some p
remembered (See p) = Some p
remembered Close = None
remembered Inside = None
remembered Try = None
remembered Open = None
remembered Await = None
remembered Hand = None

abbrev pub remembered_by : Option (Claim Stage) → Option ℕ
remembered_by None = None
remembered_by (Some c) = remembered c.stage

-- session i is at a stage at bin b
abbrev pub staged : State → ℕ → ℕ → Stage → State
staged s i b g = with_record s i (Some (claim b g))

-- session i has no record and an empty node
abbrev pub released : State → ℕ → State
released s i = with_node (with_record s i None) i memory.empty_node

abbrev pub with_next : Node → ℕ → Node
with_next m i = record { next = Some i; version = m.version }

abbrev pub with_version : Node → ℕ → Node
with_version m v = record { next = m.next; version = Some v }

-- the caller's own record, past the refusals 1, 2 and 3, or 9 at the session
abbrev pub own_record : State → ℕ → ℕ → Result (Option (Claim Stage)) Fault
own_record s i b = memory.own_record (nodes_for s.bank.sizes) s.bank.sizes s.memory i b

-- the stage of its claim at the bin, past these refusals, or 10 at the session
abbrev pub own_stage : State → ℕ → ℕ → Result Stage Fault
own_stage s i b = memory.own_stage (nodes_for s.bank.sizes) s.bank.sizes s.memory i b

-- what a bin's lock word says, or 9 at the bin
abbrev pub lawful : Option Word → ℕ → Result Word Fault
lawful None b = Err (bad_word b)
lawful (Some w) b = Ok w

abbrev pub lawful_word : State → ℕ → Result Word Fault
lawful_word s b = lawful (unpacked (word_at s b) (sessions_of s)) b

-- a number below its bound, or 9 at the session that it was read from
abbrev pub below : ℕ → ℕ → ℕ → Result ℕ Fault
below bound i x = if nat_lt x bound then Ok x else Err (bad_record i)

-- the same of a number that has to be there
abbrev pub needed_below : ℕ → ℕ → Option ℕ → Result ℕ Fault
needed_below bound i None = Err (bad_record i)
needed_below bound i (Some x) = below bound i x

-- the own version and the own next, where an action needs them
abbrev pub own_version : State → ℕ → Result ℕ Fault
own_version s i = needed_below versions i (node_of s i).version

abbrev pub own_next : State → ℕ → Result ℕ Fault
own_next s i = needed_below (sessions_of s) i (node_of s i).next
