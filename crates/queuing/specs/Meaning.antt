-- What a state of the queuing kind means at each bin.
use Rattle.std.specs.Prelude.{ℕ, zero, suc, ◌+◌, ◌-◌, ◌%◌, Bool, List, [], ◌∷◌, Some, None, Ok, Err, Option, Result}
use Rattle.bank.specs.Claims as claims
use Rattle.bank.specs.Claims.{passes, at_stage}
use Rattle.bank.specs.Locks.{word_at, record_of, node_of}
use Rattle.bank.specs.declared.memory.Claim.{Claim}
use Rattle.bank.specs.declared.refusals.Fault.{Fault}
use Rattle.queuing.specs.declared.Stage.{Stage}
use Rattle.queuing.specs.declared.Stage.TheVariants.{Link, See, Close, Inside, Try, Open, Await, Hand}
use Rattle.queuing.specs.declared.word.Word.{Word}
use Rattle.queuing.specs.declared.word.Word.TheVariants.{Free, Held, Window}
use Rattle.queuing.specs.Calls.{behind}
use Rattle.queuing.specs.State.{State, sessions_of, entered, has_left}
use Rattle.queuing.specs.Word as word
use Rattle.queuing.specs.Word.{unpacked, versions}

abbrev pub leaving : State → ℕ → ℕ → Bool
leaving s b i = passes (at_stage has_left b) (record_of s i)

abbrev pub inside : State → ℕ → Option ℕ
inside s b = claims.inside entered s b

abbrev pub calm : State → ℕ → Bool
calm s b = word.calm_of (word_at s b)

abbrev pub mark : State → ℕ → ℕ
mark s b = word_at s b

-- what the lock word of a bin says
abbrev pub said : State → ℕ → Option Word
said s b = unpacked (word_at s b) (sessions_of s)

-- THE LINE, walked back from the word's node through the remembered nodes to one that has a version
abbrev pub walk_on : Result (Option ℕ) Fault → List ℕ → (ℕ → List ℕ) → List ℕ
walk_on (Err f) line rest = line
walk_on (Ok None) line rest = line
walk_on (Ok (Some p)) line rest = rest p

-- from session j, before those who stand behind it; k more may be passed
abbrev pub walk : ℕ → State → ℕ → List ℕ → List ℕ
walk zero s j after = j ∷ after
walk (suc k) s j after = walk_on (behind s j) (j ∷ after) (λ p. walk k s p (j ∷ after))

abbrev pub line_from : State → Option Word → List ℕ
line_from s None = []
line_from s (Some (Free v)) = []
line_from s (Some (Held j)) = walk (sessions_of s) s j []
line_from s (Some (Window j v)) = walk (sessions_of s) s j []

abbrev pub line : State → ℕ → List ℕ
line s b = line_from s (said s b)

-- THE AGE. The version of the first in line counts its own entry, from when it is handed over.
abbrev pub age_at : Stage → ℕ → ℕ
age_at (Link p) v = v
age_at (See p) v = (v + (versions - 1)) % versions
age_at Close v = (v + (versions - 1)) % versions
age_at Inside v = v
age_at Try v = v
age_at Open v = v
age_at Await v = v
age_at Hand v = v

abbrev pub version_or_zero : Option ℕ → ℕ
version_or_zero None = 0
version_or_zero (Some v) = v

abbrev pub age_with : Option (Claim Stage) → ℕ → ℕ
age_with None v = v
age_with (Some c) v = age_at c.stage v

abbrev pub age_in_line : State → List ℕ → ℕ
age_in_line s [] = 0
age_in_line s (f ∷ rest) = age_with (record_of s f) (version_or_zero (node_of s f).version)

-- a calm word shows the age; otherwise the first in line has it
abbrev pub age_from : State → Option Word → List ℕ → ℕ
age_from s None line = 0
age_from s (Some (Free v)) line = v
age_from s (Some (Held j)) line = age_in_line s line
age_from s (Some (Window j v)) line = v

abbrev pub age : State → ℕ → ℕ
age s b = age_from s (said s b) (line s b)

-- the pushes other than waits that a session may still need
abbrev pub needed_at : Stage → ℕ
needed_at (Link p) = 3
needed_at (See p) = 2
needed_at Close = 1
needed_at Inside = 0
needed_at Try = 4
needed_at Open = 3
needed_at Await = 2
needed_at Hand = 1

abbrev pub needed_by : Option (Claim Stage) → ℕ
needed_by None = 0
needed_by (Some c) = needed_at c.stage

abbrev pub needed : State → ℕ → ℕ
needed s i = needed_by (record_of s i)
