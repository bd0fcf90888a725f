-- The lock word of the central kind: bit 63 says locked, the rest is a version. Every word is lawful.
use Rattle.std.specs.Prelude.{ℕ, ◌+◌, ◌%◌, Bool, if◌then◌else◌, nat_lt}

-- bit 63, and how many versions there are: 2^63
abbrev pub lock_bit : ℕ
lock_bit = 9223372036854775808

abbrev pub unlocked : ℕ → Bool
unlocked w = nat_lt w 9223372036854775808

-- an unlocked word, locked
abbrev pub locked : ℕ → ℕ
locked w = w + 9223372036854775808

-- unlocked, at the next version
abbrev pub released : ℕ → ℕ
released w = (w % 9223372036854775808 + 1) % 9223372036854775808

-- unlocked is calm; a locked word's entry is counted already
abbrev pub age_of : ℕ → ℕ
age_of w = if unlocked w then w else released w
