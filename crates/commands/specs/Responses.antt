-- What a bank that is laid out replies to a command, and what the command leaves.
use Rattle.std.specs.Prelude.{ℕ, Bool, true, false, if◌then◌else◌, length, Ok, Err, Result, nat_lt}
use Rattle.bank.specs.Calls as calls
use Rattle.bank.specs.Kind.{Kind}
use Rattle.bank.specs.Locks.{Locks, word_at, with_word}
use Rattle.bank.specs.declared.refusals.Fault.{Fault}
use Rattle.commands.specs.declared.replies.Declined.{Declined}
use Rattle.commands.specs.declared.replies.Declined.TheVariants.{Refused, Unreadable, NotNow}
use Rattle.commands.specs.declared.replies.Reply.{Reply}
use Rattle.commands.specs.declared.replies.Reply.TheVariants.{Answered, Ahead as Counted, Calm, Busy, Word as WordIs, Poked}
use Rattle.commands.specs.declared.syntax.Command.{Command}
use Rattle.commands.specs.declared.syntax.Command.TheVariants.{Ahead, Peek, Call, Word, PokeWord}

-- a lock kind's answer as the reply that f makes of it, or its refusal
abbrev pub replied : {A : Type 0} → (A → Reply) → Result A Fault → Result Reply Declined
replied f (Ok a) = Ok (f a)
replied f (Err e) = Err (Refused e)

-- the reply that tells a bin's mark, and whether the bin is calm
abbrev pub peeked : ℕ × Bool → Reply
peeked (mark, true) = Calm mark
peeked (mark, false) = Busy mark

module _ {B R : Type 0} (k : Kind (Locks B R)) where
  abbrev pub reply_of : Locks B R → Command → Result Reply Declined
  reply_of s (Call call i b) = replied Answered (calls.answer_of k call s i b)
  reply_of s (Ahead i) = replied Counted (k.counts s i)
  reply_of s (Peek b) = replied peeked (k.peeks s b)
  reply_of s (Word b) = if nat_lt b (length s.memory.words) then Ok (WordIs (word_at s b)) else Err Unreadable
  reply_of s (PokeWord b w) = if nat_lt b (length s.memory.words) then Ok Poked else Err Unreadable
  reply_of s _ = Err NotNow

  abbrev pub state_after : Locks B R → Command → Locks B R
  state_after s (Call call i b) = calls.state_after k call s i b
  state_after s (PokeWord b w) = if nat_lt b (length s.memory.words) then with_word s b w else s
  state_after s _ = s
