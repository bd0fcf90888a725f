-- Arithmetic of tickets, which go round at 2^32, and of the two halves of a word.
use Rattle.std.specs.Prelude.{◌≡◌, ℕ, suc, ◌+◌, ◌%◌, ◌<◌, ◌≢◌}
use Rattle.std.proofs.Common.{arith}
use Rattle.ticket.specs.Word.{next_of, served_of, word_of, after, past, outstanding}

-- the ticket that is o places after v
abbrev pub forward : ℕ → ℕ → ℕ
forward v o = (v + o) % 4294967296

next_word : (n v : ℕ) → v < 4294967296 → next_of (word_of n v) ≡ n
next_word n v h = omega arith

pub served_word : (n v : ℕ) → v < 4294967296 → served_of (word_of n v) ≡ v
served_word n v h = omega arith

pub outstanding_word : (n v : ℕ) → v < 4294967296 → outstanding (word_of n v) ≡ past n v
outstanding_word n v h =
    let p = next_word n v h in
    let q = served_word n v h in
    cc

pub word_below : (n v : ℕ) → n < 4294967296 → v < 4294967296 → word_of n v < 18446744073709551616
word_below n v h k = omega arith

pub next_below : (w : ℕ) → w < 18446744073709551616 → next_of w < 4294967296
next_below w h = omega arith

pub served_below : (w : ℕ) → served_of w < 4294967296
served_below w = omega arith

pub after_below : (t : ℕ) → after t < 4294967296
after_below t = omega arith

pub past_same : (v : ℕ) → v < 4294967296 → past v v ≡ 0
past_same v h = omega arith

pub past_zero : (t v : ℕ) → t < 4294967296 → v < 4294967296 → past t v ≡ 0 → t ≡ v
past_zero t v h k e = omega arith

-- one more ticket is drawn
pub past_more : (n v : ℕ) → n < 4294967296 → v < 4294967296 → past n v < 4294967295 → past (after n) v ≡ suc (past n v)
past_more n v h k l = omega arith

-- the next ticket is served
pub past_less : (t v : ℕ) → t < 4294967296 → v < 4294967296 → 0 < past t v → past t v ≡ suc (past t (after v))
past_less t v h k l = omega arith

pub past_forward : (v o : ℕ) → v < 4294967296 → o < 4294967296 → past (forward v o) v ≡ o
past_forward v o h k = omega arith

pub forward_past : (t v : ℕ) → t < 4294967296 → v < 4294967296 → forward v (past t v) ≡ t
forward_past t v h k = omega arith

pub forward_none : (v : ℕ) → v < 4294967296 → forward v 0 ≡ v
forward_none v h = omega arith

pub forward_after : (v o : ℕ) → forward v (suc o) ≡ forward (after v) o
forward_after v o = omega arith

pub forward_apart : (v o : ℕ) → v < 4294967296 → suc o < 4294967296 → forward v (suc o) ≢ v
forward_apart v o h l e = omega arith

pub round_suc : (t u : ℕ) → t % 4294967296 ≡ u % 4294967296 → suc t % 4294967296 ≡ suc u % 4294967296
round_suc t u e = omega arith
