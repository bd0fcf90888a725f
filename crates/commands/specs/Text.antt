-- How an answer is written, as bytes. None where a lock word is in it: its 16 digits are not told here.
use Rattle.std.specs.Prelude.{ℕ, List, Some, None, codes, decimal, Option}
use Rattle.bank.specs.Text.{answer_text, fault_text}
use Rattle.bank.specs.declared.laid.LayoutError.{LayoutError}
use Rattle.bank.specs.declared.laid.LayoutError.TheVariants as layout
use Rattle.commands.specs.declared.replies.Declined.{Declined}
use Rattle.commands.specs.declared.replies.Declined.TheVariants.{Refused, Unreadable, NotNow, NoMemory}
use Rattle.commands.specs.declared.replies.Reply.{Reply}
use Rattle.commands.specs.declared.replies.Reply.TheVariants.{Laid, Answered, Ahead, Calm, Busy, Word, Poked}

abbrev pub count_text : Option ℕ → List ℕ
count_text None = codes "none"
count_text (Some n) = decimal n

abbrev pub reply_text : Reply → Option (List ℕ)
reply_text Laid = Some (codes "laid")
reply_text (Answered a) = Some (answer_text a)
reply_text (Ahead n) = Some (count_text n)
reply_text (Calm mark) = None
reply_text (Busy mark) = None
reply_text (Word w) = None
reply_text Poked = Some (codes "poked")

abbrev pub declined_text : Declined → List ℕ
declined_text (Refused f) = fault_text f
declined_text Unreadable = codes "unreadable"
declined_text NotNow = codes "not now"
declined_text NoMemory = codes "no memory"

-- why a line is declined whose bank was not laid out
abbrev pub declined_layout : LayoutError → Declined
declined_layout (layout.Refused f) = Refused f
declined_layout layout.NoMemory = NoMemory
