-- Lock words: what a packed word says, and how closing and opening change it.
use Rattle.std.specs.Prelude.{◌≡◌, ℕ, ◌^◌, ◌<◌, Some}
use Rattle.std.proofs.Common.{arith}
use Rattle.std.proofs.lemmas.Bool.Decides.{nat_tests}
use Rattle.queuing.specs.declared.word.Word.{Word}
use Rattle.queuing.specs.declared.word.Word.TheVariants.{Free, Held, Window}
use Rattle.queuing.specs.Word.{Within, packed, unpacked, closed, opened, versions}

pub unpacked_packed : (n : ℕ) (w : Word) → Within n w → unpacked (packed w) n ≡ Some w
unpacked_packed n (Free v) h = grind (arith, nat_tests)
unpacked_packed n (Held i) h = grind (arith, nat_tests)
unpacked_packed n (Window i v) h = grind (arith, nat_tests)

-- a word for so many sessions is one for the most that there may be
pub within_most : (n : ℕ) (w : Word) → Within n w → Within 1024 w
within_most n (Free v) h = h
within_most n (Held i) h = (h.1, h.1)
within_most n (Window i v) h = (h.1, h.1, h.2)

pub packed_fits : (w : Word) → packed w < 2 ^ 64
packed_fits (Free v) = omega arith
packed_fits (Held i) = omega arith
packed_fits (Window i v) = omega arith

pub closed_held : (i : ℕ) → closed (packed (Held i)) ≡ packed (Held i)
closed_held i = omega arith

pub closed_window : (i v : ℕ) → closed (packed (Window i v)) ≡ packed (Held i)
closed_window i v = omega arith

pub opened_held : (i v : ℕ) → v < versions → opened (packed (Held i)) v ≡ packed (Window i v)
opened_held i v h = omega arith
