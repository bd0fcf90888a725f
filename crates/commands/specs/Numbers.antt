-- The numbers of a command line, as bytes. None where the text is no such number.
-- An unfoldable definition is one word to a proof that does not open it, so that no search goes into the digits.
use Rattle.std.specs.Prelude.{ℕ, ◌+◌, ◌-◌, ◌*◌, Bool, true, false, if◌then◌else◌, ◌&&◌, List, [], ◌∷◌, length, drop, ℤ, pos, negsuc, Some, None, Option, ◌==◌, nat_le, nat_lt, slice_index}
use Rattle.std.specs.List.{fold}

-- what a byte counts as a digit: 0 to 9, and the capitals A to F
abbrev pub digit_of : ℕ → Option ℕ
digit_of c = if nat_le 48 c && nat_le c 57 then Some (c - 48) else if nat_le 65 c && nat_le c 70 then Some (c - 55) else None

-- the value with one digit more behind it; none for a digit that the radix does not have, and from 2^64 on
abbrev pub with_digit : ℕ → Option ℕ → Option ℕ → Option ℕ
with_digit radix (Some n) (Some d) = if nat_lt d radix && nat_lt (n * radix + d) 18446744073709551616 then Some (n * radix + d) else None
with_digit radix _ _ = None

-- the value of a text of digits, below 2^64
abbrev pub read_digits : ℕ → List ℕ → Option ℕ
read_digits radix text = fold (λ value c. with_digit radix value (digit_of c)) (Some 0) text

-- at least one digit, and a leading zero only alone
abbrev pub well_formed : List ℕ → Bool
well_formed [] = false
well_formed (c ∷ []) = true
well_formed (c ∷ (d ∷ cs)) = if c == 48 then false else true

-- a number in decimal digits
unfoldable pub number : List ℕ → Option ℕ
number text = if well_formed text then read_digits 10 text else None

abbrev pub at_most : ℕ → Option ℕ → Option ℕ
at_most most None = None
at_most most (Some n) = if nat_le n most then Some n else None

-- a number below 2^32
unfoldable pub word32 : List ℕ → Option ℕ
word32 text = at_most 4294967295 (number text)

-- a signed 32-bit number, a minus sign directly before its digits; zero has no sign
abbrev pub positive_amount : Option ℕ → Option ℤ
positive_amount None = None
positive_amount (Some n) = if nat_le n 2147483647 then Some (pos n) else None

abbrev pub negative_amount : Option ℕ → Option ℤ
negative_amount None = None
negative_amount (Some n) = if nat_lt 0 n && nat_le n 2147483648 then Some (negsuc (n - 1)) else None

unfoldable pub amount : List ℕ → Option ℤ
amount text =
    if nat_lt 0 (length text) && slice_index text 0 == 45 then negative_amount (number (drop 1 text)) else positive_amount (number text)

-- a lock word in 16 hexadecimal digits
unfoldable pub lock_word : List ℕ → Option ℕ
lock_word text = if length text == 16 then read_digits 16 text else None
