-- What a state of the central kind means at each bin.
use Rattle.std.specs.Prelude.{ℕ, Bool, false, List, [], Option}
use Rattle.bank.specs.Claims as claims
use Rattle.bank.specs.Locks.{word_at}
use Rattle.central.specs.State.{State, entered}
use Rattle.central.specs.Word.{unlocked, age_of}

-- a leave brings out at once
abbrev pub leaving : State → ℕ → ℕ → Bool
leaving s b i = false

abbrev pub inside : State → ℕ → Option ℕ
inside s b = claims.inside entered s b

abbrev pub age : State → ℕ → ℕ
age s b = age_of (word_at s b)

abbrev pub calm : State → ℕ → Bool
calm s b = unlocked (word_at s b)

abbrev pub mark : State → ℕ → ℕ
mark s b = word_at s b

-- there are no lines
abbrev pub line : State → ℕ → List ℕ
line s b = []

abbrev pub needed : State → ℕ → ℕ
needed s i = 0
