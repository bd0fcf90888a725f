-- What a line says, and what it is answered.
use Rattle.std.specs.Prelude.{◌≡◌, ℕ, List, Some, None, Ok, Err, Option, Result, IsUtf8, ◌==◌}
use Rattle.std.specs.List.{slice_split}
use Rattle.commands.specs.Syntax.{Texts, ReadAs}
use Rattle.commands.specs.declared.replies.Declined.{Declined}
use Rattle.commands.specs.declared.replies.Declined.TheVariants.{Refused, Unreadable, NotNow, NoMemory}
use Rattle.commands.specs.declared.replies.Reply.{Reply}
use Rattle.commands.specs.declared.syntax.Command.{Command}
use Rattle.console.specs.Sites.{CarriesOut}
use Rattle.console.specs.declared.site.Site.{Site}

-- the words of a line, with one space between two
abbrev pub words_of : List ℕ → Texts
words_of line = slice_split (λ b. b == 32) line

-- a line reads as the command that its words spell; it is unreadable only where it is no text or its words spell none
abbrev pub LineReads : List ℕ → Result Command Declined → Type 0
LineReads line (Ok c) = ReadAs (words_of line) (Some c)
LineReads line (Err Unreadable) = IsUtf8 line → ReadAs (words_of line) None
LineReads line (Err NoMemory) = Unit {0}
LineReads line (Err NotNow) = ⊥
LineReads line (Err (Refused f)) = ⊥

-- what comes of a line that reads so: its command is carried out, or it is declined and changes nothing
abbrev pub Follows : Result Command Declined → Option Site → Result Reply Declined → Option Site → Type 0
Follows (Ok c) s r t = CarriesOut s c r t
Follows (Err d) s r t = (r ≡ Err d) × (t ≡ s)

abbrev pub Answers : List ℕ → Option Site → Result Reply Declined → Option Site → Type 0
Answers line s r t = (read : Result Command Declined) × (LineReads line read × Follows read s r t)
