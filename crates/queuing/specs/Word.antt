-- The lock word: bit 63 says locked, bit 62 says window, bits 61 to 52 are a node number, bits 51 to 0 are a version.
use Rattle.std.specs.Prelude.{ℕ, ◌+◌, ◌*◌, ◌/◌, ◌%◌, ◌^◌, ◌<◌, Bool, true, false, if◌then◌else◌, ◌&&◌, Some, None, Option, ◌==◌, nat_le, nat_lt}
use Rattle.queuing.specs.declared.word.Word.{Word}
use Rattle.queuing.specs.declared.word.Word.TheVariants.{Free, Held, Window}

-- how many versions there are before they go round
abbrev pub versions : ℕ
versions = 2 ^ 52

-- the version after v
abbrev pub next_version : ℕ → ℕ
next_version v = (v + 1) % 2 ^ 52

abbrev pub node_in : ℕ → ℕ
node_in w = w / 2 ^ 52 % 1024

abbrev pub version_in : ℕ → ℕ
version_in w = w % 2 ^ 52

-- the numbers of a lawful word, for so many sessions
abbrev pub Within : ℕ → Word → Type 0
Within n (Free v) = v < 2 ^ 52
Within n (Held i) = (i < n) × (i < 1024)
Within n (Window i v) = (i < n) × (i < 1024) × (v < 2 ^ 52)

abbrev pub packed : Word → ℕ
packed (Free v) = v % 2 ^ 52
packed (Held i) = 2 ^ 63 + i % 1024 * 2 ^ 52
packed (Window i v) = 2 ^ 63 + 2 ^ 62 + i % 1024 * 2 ^ 52 + v % 2 ^ 52

-- free below 2^52; else, at a node that there is, window with both high bits, held with the higher one and no version
abbrev pub unpacked : ℕ → ℕ → Option Word
unpacked w n =
    if nat_lt w (2 ^ 52) then Some (Free (version_in w)) else if nat_le n (node_in w) then None else if w / 2 ^ 62 == 3 then Some (Window (node_in w) (version_in w)) else if w / 2 ^ 62 == 2 && version_in w == 0 then Some (Held (node_in w)) else None

-- the word without its window and its version
abbrev pub closed : ℕ → ℕ
closed w = w / 2 ^ 63 * 2 ^ 63 + node_in w * 2 ^ 52

-- the word with a window and the version v, at the node that it names
abbrev pub opened : ℕ → ℕ → ℕ
opened w v = w / 2 ^ 63 * 2 ^ 63 + 2 ^ 62 + node_in w * 2 ^ 52 + v

abbrev pub calm_word : Word → Bool
calm_word (Free v) = true
calm_word (Held i) = false
calm_word (Window i v) = true

abbrev pub held_by : Word → ℕ → Bool
held_by (Free v) i = false
held_by (Held j) i = j == i
held_by (Window j v) i = false

-- what a word tells by itself: whether it is calm and, where it is, the age
abbrev pub calm_said : Option Word → Bool
calm_said None = false
calm_said (Some w) = calm_word w

abbrev pub calm_of : ℕ → Bool
calm_of w = calm_said (unpacked w 1024)

abbrev pub version_said : Option Word → ℕ
version_said None = 0
version_said (Some (Free v)) = v
version_said (Some (Held i)) = 0
version_said (Some (Window i v)) = v

abbrev pub age_of : ℕ → ℕ
age_of w = version_said (unpacked w 1024)
