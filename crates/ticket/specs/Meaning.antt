-- What a state of the ticket kind means at each bin.
use Rattle.std.specs.Prelude.{ℕ, zero, suc, ◌%◌, Bool, false, if◌then◌else◌, List, [], ◌∷◌, Some, None, Option, nat_eq}
use Rattle.bank.specs.Locks.{word_at, record_of}
use Rattle.bank.specs.Claims as claims
use Rattle.bank.specs.Claims.{found, at_stage}
use Rattle.bank.specs.declared.memory.Claim.{Claim}
use Rattle.ticket.specs.declared.Turn.{Turn}
use Rattle.ticket.specs.State.{State, entered, ticket_of}
use Rattle.ticket.specs.Word as word
use Rattle.ticket.specs.Word.{served_of, outstanding, after}

-- a leave brings out at once
abbrev pub leaving : State → ℕ → ℕ → Bool
leaving s b i = false

abbrev pub inside : State → ℕ → Option ℕ
inside s b = claims.inside entered s b

-- the ticket served, and one more once its holder is inside
abbrev pub age_with : ℕ → Option ℕ → ℕ
age_with v None = v
age_with v (Some i) = after v

abbrev pub age : State → ℕ → ℕ
age s b = age_with (served_of (word_at s b)) (inside s b)

abbrev pub calm : State → ℕ → Bool
calm s b = word.calm_of (word_at s b)

abbrev pub mark : State → ℕ → ℕ
mark s b = word_at s b

-- a claim at bin b with ticket t
abbrev pub holds : ℕ → ℕ → Claim Turn → Bool
holds b t = at_stage (λ (turn : Turn). nat_eq (ticket_of turn) t) b

abbrev pub listed : Option ℕ → List ℕ → List ℕ
listed None js = js
listed (Some i) js = i ∷ js

-- the holders of n tickets of bin b from t on
abbrev pub holders : List (Option (Claim Turn)) → ℕ → ℕ → ℕ → List ℕ
holders rs b t zero = []
holders rs b t (suc n) = listed (found (holds b (t % 4294967296)) 0 rs) (holders rs b (suc t) n)

-- the holders of the outstanding tickets, in the order of their tickets
abbrev pub line : State → ℕ → List ℕ
line s b = holders s.memory.records b (served_of (word_at s b)) (outstanding (word_at s b))

-- one push brings a waiting session in
abbrev pub needed_by : Option (Claim Turn) → ℕ
needed_by None = 0
needed_by (Some c) = if entered c.stage then 0 else 1

abbrev pub needed : State → ℕ → ℕ
needed s i = needed_by (record_of s i)
