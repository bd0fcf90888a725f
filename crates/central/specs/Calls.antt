-- What each call of the central kind answers and leaves.
use Rattle.std.specs.Prelude.{ℕ, Bool, if◌then◌else◌, ◌&&◌, Some, None, Ok, Err, Option, Result, ◌==◌, nat_lt}
use Rattle.bank.specs.Claims.{claim}
use Rattle.bank.specs.Locks.{fitting, word_at, with_record, with_both, laid_with}
use Rattle.bank.specs.Memory.{admits_session, admits_bin}
use Rattle.bank.specs.Outcome.{Outcome, refused, granted}
use Rattle.bank.specs.Refusals.{bad_size, bad_record, out_of_turn}
use Rattle.bank.specs.declared.answers.AskAnswer.{AskAnswer}
use Rattle.bank.specs.declared.answers.AskAnswer.TheVariants.{NotYet}
use Rattle.bank.specs.declared.answers.LeaveAnswer.{LeaveAnswer}
use Rattle.bank.specs.declared.answers.LeaveAnswer.TheVariants.{Out as OutAtOnce}
use Rattle.bank.specs.declared.answers.PushAnswer.{PushAnswer}
use Rattle.bank.specs.declared.answers.PushAnswer.TheVariants.{Waits, Moved, In}
use Rattle.bank.specs.declared.memory.Claim.{Claim}
use Rattle.bank.specs.declared.memory.Sizes.{Sizes}
use Rattle.bank.specs.declared.refusals.Fault.{Fault}
use Rattle.central.specs.declared.Stage.{Stage}
use Rattle.central.specs.declared.Stage.TheVariants.{Look, Swap, Inside}
use Rattle.central.specs.State.{State, nodes_for, entered, own_record, own_stage}
use Rattle.central.specs.Word.{unlocked, locked, released}

-- LAYOUT: every word is unlocked at the starting age, and nobody has a claim.
abbrev pub laid_out : State → Sizes → ℕ → State
laid_out s z a = laid_with s (record { sizes = z }) a

abbrev pub lays : State → Sizes → ℕ → Outcome (Unit {0}) State
lays s z a =
    if fitting nodes_for s z && nat_lt a 9223372036854775808 then granted (laid_out s z a) tt else refused s bad_size

-- a session's record with another stage
abbrev pub staged : State → ℕ → ℕ → Stage → State
staged s i b stage = with_record s i (Some (claim b stage))

-- ASK: a look. At an unlocked word, which is remembered, a swap follows; at a locked one another look.
abbrev pub after_look : ℕ → Stage
after_look w = if unlocked w then Swap w else Look

abbrev pub asks_own : Result (Option (Claim Stage)) Fault → State → ℕ → ℕ → Outcome AskAnswer State
asks_own (Err f) s i b = refused s f
asks_own (Ok (Some c)) s i b = refused s (out_of_turn i)
asks_own (Ok None) s i b = granted (staged s i b (after_look (word_at s b))) NotYet

abbrev pub asks : State → ℕ → ℕ → Outcome AskAnswer State
asks s i b = asks_own (own_record s i b) s i b

-- PUSH: a look answers moved at an unlocked word, else waits. A swap locks the word and answers in if the word is the
-- remembered one; otherwise it answers moved and a look follows. A remembered word that is locked is out of range.
abbrev pub looks : State → ℕ → ℕ → Outcome PushAnswer State
looks s i b = if unlocked (word_at s b) then granted (staged s i b (Swap (word_at s b))) Moved else granted s Waits

abbrev pub swaps : ℕ → State → ℕ → ℕ → Outcome PushAnswer State
swaps seen s i b =
    if word_at s b == seen then granted (with_both s b (locked seen) i (Some (claim b Inside))) In else granted (staged s i b Look) Moved

abbrev pub pushes_at : Stage → State → ℕ → ℕ → Outcome PushAnswer State
pushes_at Look s i b = looks s i b
pushes_at (Swap seen) s i b = if unlocked seen then swaps seen s i b else refused s (bad_record i)
pushes_at Inside s i b = refused s (out_of_turn i)

abbrev pub pushes_own : Result Stage Fault → State → ℕ → ℕ → Outcome PushAnswer State
pushes_own (Err f) s i b = refused s f
pushes_own (Ok g) s i b = pushes_at g s i b

abbrev pub pushes : State → ℕ → ℕ → Outcome PushAnswer State
pushes s i b = pushes_own (own_stage s i b) s i b

-- LEAVE: unlocks, raises the version, and the session is out.
abbrev pub leaves_own : Result Stage Fault → State → ℕ → ℕ → Outcome LeaveAnswer State
leaves_own (Err f) s i b = refused s f
leaves_own (Ok g) s i b =
    if entered g then granted (with_both s b (released (word_at s b)) i None) OutAtOnce else refused s (out_of_turn i)

abbrev pub leaves : State → ℕ → ℕ → Outcome LeaveAnswer State
leaves s i b = leaves_own (own_stage s i b) s i b

-- PEEK: the word is the mark, and unlocked is calm.
abbrev pub peeks_word : Result (Unit {0}) Fault → ℕ → Result (ℕ × Bool) Fault
peeks_word (Err f) w = Err f
peeks_word (Ok u) w = Ok (w, unlocked w)

abbrev pub peeks : State → ℕ → Result (ℕ × Bool) Fault
peeks s b = peeks_word (admits_bin 0 s.bank.sizes s.memory b) (word_at s b)

-- AHEAD: nobody stands in a line.
abbrev pub no_line : Result (Unit {0}) Fault → Result (Option ℕ) Fault
no_line (Err f) = Err f
no_line (Ok u) = Ok None

abbrev pub counts : State → ℕ → Result (Option ℕ) Fault
counts s i = no_line (admits_session 0 s.bank.sizes s.memory i)
