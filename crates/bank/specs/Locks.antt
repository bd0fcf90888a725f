-- The state of a bank: the bank with the memory that it is lent.
use Rattle.std.specs.Prelude.{ℕ, Bool, None, Option, slice_index, slice_index_or, slice_set}
use Rattle.bank.specs.declared.memory.LockMemory.{LockMemory}
use Rattle.bank.specs.declared.memory.Node.{Node}
use Rattle.bank.specs.declared.memory.Sizes.{Sizes}
use Rattle.bank.specs.Memory.{Lent, lent, has_lengths, empty_node, fresh}

pub record Locks (B R : Type 0) : Type 0 where
  pub bank : B
  pub memory : Lent R

abbrev pub locks : {B R : Type 0} → B → LockMemory R → Locks B R
locks b m = record { bank = b; memory = lent m }

-- the memory has the lengths told for these sizes
abbrev pub fitting : {B R : Type 0} → (Sizes → ℕ) → Locks B R → Sizes → Bool
fitting nodes s z = has_lengths (nodes z) z s.memory

abbrev pub with_bank : {B R : Type 0} → (B → B) → Locks B R → Locks B R
with_bank f s = record { bank = f s.bank; memory = s.memory }

abbrev pub word_at : {B R : Type 0} → Locks B R → ℕ → ℕ
word_at s b = slice_index s.memory.words b

abbrev pub record_of : {B X : Type 0} → Locks B (Option X) → ℕ → Option X
record_of s i = slice_index_or s.memory.records i None

abbrev pub node_of : {B R : Type 0} → Locks B R → ℕ → Node
node_of s i = slice_index_or s.memory.nodes i empty_node

-- another word at bin b
abbrev pub with_word : {B R : Type 0} → Locks B R → ℕ → ℕ → Locks B R
with_word s b w =
    record {
      bank = s.bank;
      memory = record { words = slice_set s.memory.words b w; records = s.memory.records; nodes = s.memory.nodes };
    }

-- another record of session i
abbrev pub with_record : {B R : Type 0} → Locks B R → ℕ → R → Locks B R
with_record s i r =
    record {
      bank = s.bank;
      memory = record { words = s.memory.words; records = slice_set s.memory.records i r; nodes = s.memory.nodes };
    }

-- another word at bin b, and another record of session i
abbrev pub with_both : {B R : Type 0} → Locks B R → ℕ → ℕ → ℕ → R → Locks B R
with_both s b w i r =
    record {
      bank = s.bank;
      memory =
          record { words = slice_set s.memory.words b w; records = slice_set s.memory.records i r; nodes = s.memory.nodes };
    }

-- another node of session i
abbrev pub with_node : {B R : Type 0} → Locks B R → ℕ → Node → Locks B R
with_node s i n =
    record {
      bank = s.bank;
      memory = record { words = s.memory.words; records = s.memory.records; nodes = slice_set s.memory.nodes i n };
    }

-- another bank, every word w, every record none and every node empty
abbrev pub laid_with : {B X : Type 0} → Locks B (Option X) → B → ℕ → Locks B (Option X)
laid_with s bank w = record { bank = bank; memory = fresh w s.memory }
