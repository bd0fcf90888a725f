-- The lock word of the ticket kind: the high half is the next ticket, the low half the one served.
use Rattle.std.specs.Prelude.{ℕ, ◌+◌, ◌-◌, ◌*◌, ◌/◌, ◌%◌, Bool, if◌then◌else◌, Ok, Err, Result, ◌==◌, nat_le}
use Rattle.bank.specs.Refusals.{bad_word}
use Rattle.bank.specs.declared.refusals.Fault.{Fault}
use Rattle.ticket.specs.declared.word.Word.{Word}

-- how many tickets there are before they go round: 2^32
abbrev pub count : ℕ
count = 4294967296

abbrev pub next_of : ℕ → ℕ
next_of w = w / 4294967296

abbrev pub served_of : ℕ → ℕ
served_of w = w % 4294967296

abbrev pub word_of : ℕ → ℕ → ℕ
word_of next served = next * 4294967296 + served

-- a word as its halves, and the word of two halves
abbrev pub halves : ℕ → Word
halves w = record { next = next_of w; served = served_of w }

abbrev pub packed : Word → ℕ
packed h = word_of h.next h.served

-- the ticket after t
abbrev pub after : ℕ → ℕ
after t = (t + 1) % 4294967296

-- how many tickets lie from v up to t, going round
abbrev pub past : ℕ → ℕ → ℕ
past t v = (t + (4294967296 - v)) % 4294967296

-- how many tickets are drawn and not yet done
abbrev pub outstanding : ℕ → ℕ
outstanding w = past (next_of w) (served_of w)

-- at most one ticket for each session is outstanding
abbrev pub lawful : ℕ → ℕ → Bool
lawful sessions w = nat_le (outstanding w) sessions

-- equal halves are calm, and each is then the age
abbrev pub calm_of : ℕ → Bool
calm_of w = next_of w == served_of w

abbrev pub age_of : ℕ → ℕ
age_of w = served_of w

-- the halves of a bin's word, or 9 at the bin
abbrev pub lawful_halves : ℕ → ℕ → ℕ → Result Word Fault
lawful_halves sessions b w = if lawful sessions w then Ok (halves w) else Err (bad_word b)
