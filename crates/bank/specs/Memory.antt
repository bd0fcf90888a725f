-- The lent memory as lists, the lengths it must have, and the refusals 1, 2 and 3.
use Rattle.std.specs.Prelude.{ℕ, Bool, true, if◌then◌else◌, ◌&&◌, List, length, replicate, Some, None, Ok, Err, vec_items, Option, Result, ◌==◌, nat_le, nat_lt, slice_index_or}
use Rattle.bank.specs.declared.memory.Capacity.{Capacity}
use Rattle.bank.specs.declared.memory.Claim.{Claim}
use Rattle.bank.specs.declared.memory.Lengths.{Lengths}
use Rattle.bank.specs.declared.memory.LockMemory.{LockMemory}
use Rattle.bank.specs.declared.memory.Node.{Node}
use Rattle.bank.specs.declared.memory.Sizes.{Sizes}
use Rattle.bank.specs.declared.refusals.Fault.{Fault}
use Rattle.bank.specs.Refusals.{bad_size, no_session, no_bin, bad_record, out_of_turn}

pub record Lent (R : Type 0) : Type 0 where
  pub words : List ℕ
  pub records : List R
  pub nodes : List Node

abbrev pub lent : {R : Type 0} → LockMemory R → Lent R
lent m = record { words = vec_items m.words; records = vec_items m.records; nodes = vec_items m.nodes }

abbrev pub empty_node : Node
empty_node = record { next = None; version = None }

-- new memory of the lengths l, every record r
abbrev pub blank : {R : Type 0} → Lengths → R → Lent R
blank l r =
    record { words = replicate l.words 0; records = replicate l.records r; nodes = replicate l.nodes empty_node }

-- every word w, every record none and every node empty
abbrev pub fresh : {X : Type 0} → ℕ → Lent (Option X) → Lent (Option X)
fresh w m =
    record {
      words = replicate (length m.words) w;
      records = replicate (length m.records) None;
      nodes = replicate (length m.nodes) empty_node;
    }

-- what a bank of these sizes serves, for a kind that wants so many nodes
abbrev pub capacity_of : (Sizes → ℕ) → Sizes → Capacity
capacity_of nodes z = record { sizes = z; nodes = nodes z }

-- 1 to 1,024 sessions and 1 to 4,096 bins
abbrev pub within_limits : Sizes → Bool
within_limits z = nat_lt 0 z.sessions && nat_le z.sessions 1024 && nat_lt 0 z.bins && nat_le z.bins 4096

-- a word for each bin, a record for each session, and as many nodes as told
abbrev pub has_lengths : {R : Type 0} → ℕ → Sizes → Lent R → Bool
has_lengths nodes z m =
    within_limits z && length m.words == z.bins && length m.records == z.sessions
    && length m.nodes == nodes

abbrev pub admits_layout : {R : Type 0} → ℕ → Sizes → Lent R → ℕ → ℕ → Result (Unit {0}) Fault
admits_layout nodes z m a ages = if has_lengths nodes z m && nat_lt a ages then Ok tt else Err bad_size

abbrev pub admits_session : {R : Type 0} → ℕ → Sizes → Lent R → ℕ → Result (Unit {0}) Fault
admits_session nodes z m i =
    if has_lengths nodes z m then if nat_lt i z.sessions then Ok tt else Err (no_session i) else Err bad_size

abbrev pub admits_bin : {R : Type 0} → ℕ → Sizes → Lent R → ℕ → Result (Unit {0}) Fault
admits_bin nodes z m b =
    if has_lengths nodes z m then if nat_lt b z.bins then Ok tt else Err (no_bin b) else Err bad_size

abbrev pub admits : {R : Type 0} → ℕ → Sizes → Lent R → ℕ → ℕ → Result (Unit {0}) Fault
admits nodes z m i b =
    if has_lengths nodes z m
    then if nat_lt i z.sessions then if nat_lt b z.bins then Ok tt else Err (no_bin b) else Err (no_session i)
    else Err bad_size

-- a record's bin is there
abbrev pub in_range : {T : Type 0} → ℕ → Option (Claim T) → Bool
in_range bins None = true
in_range bins (Some c) = nat_lt c.bin bins

abbrev pub checked_record : {T : Type 0} → Result (Unit {0}) Fault → ℕ → ℕ → Option (Claim T) → Result (Option (Claim T)) Fault
checked_record (Err f) bins i r = Err f
checked_record (Ok u) bins i r = if in_range bins r then Ok r else Err (bad_record i)

-- a session's record, past the refusals 1 and 2, or 9 at the session
abbrev pub read_record : {T : Type 0} → ℕ → Sizes → Lent (Option (Claim T)) → ℕ → Result (Option (Claim T)) Fault
read_record nodes z m i = checked_record (admits_session nodes z m i) z.bins i (slice_index_or m.records i None)

-- the caller's own record, past the refusals 1, 2 and 3, or 9 at the session
abbrev pub own_record : {T : Type 0} → ℕ → Sizes → Lent (Option (Claim T)) → ℕ → ℕ → Result (Option (Claim T)) Fault
own_record nodes z m i b = checked_record (admits nodes z m i b) z.bins i (slice_index_or m.records i None)

abbrev pub stage_at : {T : Type 0} → Result (Option (Claim T)) Fault → ℕ → ℕ → Result T Fault
stage_at (Err f) i b = Err f
stage_at (Ok None) i b = Err (out_of_turn i)
stage_at (Ok (Some c)) i b = if c.bin == b then Ok c.stage else Err (out_of_turn i)

-- the stage of the caller's claim at the bin, or 10 at the session
abbrev pub own_stage : {T : Type 0} → ℕ → Sizes → Lent (Option (Claim T)) → ℕ → ℕ → Result T Fault
own_stage nodes z m i b = stage_at (own_record nodes z m i b) i b
