-- What each call of the queuing kind answers and leaves.
use Rattle.std.specs.Prelude.{ℕ, zero, suc, ◌+◌, Bool, if◌then◌else◌, ◌&&◌, Some, None, Ok, Err, Option, Result, nat_lt}
use Rattle.bank.specs.Locks.{fitting, word_at, record_of, node_of, laid_with}
use Rattle.bank.specs.Memory.{admits_session, admits_bin}
use Rattle.bank.specs.Outcome.{Outcome, granted, refused}
use Rattle.bank.specs.Refusals.{bad_size, bad_record, out_of_turn}
use Rattle.bank.specs.declared.answers.AskAnswer.{AskAnswer}
use Rattle.bank.specs.declared.answers.LeaveAnswer.{LeaveAnswer}
use Rattle.bank.specs.declared.answers.PushAnswer.{PushAnswer}
use Rattle.bank.specs.declared.memory.Claim.{Claim}
use Rattle.bank.specs.declared.memory.Sizes.{Sizes}
use Rattle.bank.specs.declared.refusals.Fault.{Fault}
use Rattle.queuing.specs.declared.Stage.{Stage}
use Rattle.queuing.specs.declared.Stage.TheVariants.{Link, See, Close, Inside, Try, Open, Await, Hand}
use Rattle.queuing.specs.declared.word.Word.{Word}
use Rattle.queuing.specs.declared.word.Word.TheVariants.{Free}
use Rattle.queuing.specs.Actions.{exchange, link, see, close, look, try, open_window, await, hand}
use Rattle.queuing.specs.State.{State, sessions_of, bins_of, nodes_for, entered, remembered_by, own_record, own_stage, lawful_word, below, needed_below}
use Rattle.queuing.specs.Word.{packed, calm_word, versions}

-- LAYOUT: every word is free at the starting age, nobody has a claim, and every node is empty.
abbrev pub laid_out : State → Sizes → ℕ → State
laid_out s z a = laid_with s (record { sizes = z }) (packed (Free a))

abbrev pub lays : State → Sizes → ℕ → Outcome (Unit {0}) State
lays s z a = if fitting nodes_for s z && nat_lt a versions then granted (laid_out s z a) tt else refused s bad_size

-- ASK does the exchange.
abbrev pub asks_word : Option (Claim Stage) → Result Word Fault → State → ℕ → ℕ → Outcome AskAnswer State
asks_word r (Err f) s i b = refused s f
asks_word (Some c) (Ok w) s i b = refused s (out_of_turn i)
asks_word None (Ok w) s i b = exchange w s i b

abbrev pub asks_own : Result (Option (Claim Stage)) Fault → State → ℕ → ℕ → Outcome AskAnswer State
asks_own (Err f) s i b = refused s f
asks_own (Ok r) s i b = asks_word r (lawful_word s b) s i b

abbrev pub asks : State → ℕ → ℕ → Outcome AskAnswer State
asks s i b = asks_own (own_record s i b) s i b

-- PUSH does the action at which the session is.
abbrev pub pushes_at : Stage → State → ℕ → ℕ → Outcome PushAnswer State
pushes_at (Link p) s i b = link p s i b
pushes_at (See p) s i b = see s i b
pushes_at Close s i b = close s i b
pushes_at Inside s i b = refused s (out_of_turn i)
pushes_at Try s i b = try s i b
pushes_at Open s i b = open_window s i b
pushes_at Await s i b = await s i b
pushes_at Hand s i b = hand s i

abbrev pub pushes_own : Result Stage Fault → State → ℕ → ℕ → Outcome PushAnswer State
pushes_own (Err f) s i b = refused s f
pushes_own (Ok g) s i b = pushes_at g s i b

abbrev pub pushes : State → ℕ → ℕ → Outcome PushAnswer State
pushes s i b = pushes_own (own_stage s i b) s i b

-- LEAVE does the look.
abbrev pub leaves_own : Result Stage Fault → State → ℕ → ℕ → Outcome LeaveAnswer State
leaves_own (Err f) s i b = refused s f
leaves_own (Ok g) s i b = if entered g then look s i b else refused s (out_of_turn i)

abbrev pub leaves : State → ℕ → ℕ → Outcome LeaveAnswer State
leaves s i b = leaves_own (own_stage s i b) s i b

-- PEEK: the word is the mark.
abbrev pub peeks_word : Result (Unit {0}) Fault → Result Word Fault → ℕ → Result (ℕ × Bool) Fault
peeks_word (Err f) w mark = Err f
peeks_word (Ok u) (Err f) mark = Err f
peeks_word (Ok u) (Ok w) mark = Ok (mark, calm_word w)

abbrev pub peeks : State → ℕ → Result (ℕ × Bool) Fault
peeks s b = peeks_word (admits_bin (nodes_for s.bank.sizes) s.bank.sizes s.memory b) (lawful_word s b) (word_at s b)

-- WHOM a session stands right behind: nobody, if it has a version; otherwise the one whose node it remembers. 9 at the
-- session if the version is out of its range or, where there is none, if no node is remembered that is there.
abbrev pub first_with : Result ℕ Fault → Result (Option ℕ) Fault
first_with (Err f) = Err f
first_with (Ok v) = Ok None

abbrev pub behind_node : Result ℕ Fault → Result (Option ℕ) Fault
behind_node (Err f) = Err f
behind_node (Ok p) = Ok (Some p)

abbrev pub behind_whom : ℕ → ℕ → Option (Claim Stage) → Option ℕ → Result (Option ℕ) Fault
behind_whom n j r None = behind_node (needed_below n j (remembered_by r))
behind_whom n j r (Some v) = first_with (below versions j v)

abbrev pub behind : State → ℕ → Result (Option ℕ) Fault
behind s j = behind_whom (sessions_of s) j (record_of s j) (node_of s j).version

-- AHEAD: how many remembered nodes lie between the session and one that has a version; 9 at the session asked about
-- where these are as many as there are sessions.
abbrev pub count_on : Result (Option ℕ) Fault → ℕ → (ℕ → Result (Option ℕ) Fault) → Result (Option ℕ) Fault
count_on (Err f) n rest = Err f
count_on (Ok None) n rest = Ok (Some n)
count_on (Ok (Some p)) n rest = rest p

-- n are counted so far, from session i back to j, and k more may be
abbrev pub counted : ℕ → State → ℕ → ℕ → ℕ → Result (Option ℕ) Fault
counted zero s i j n = Err (bad_record i)
counted (suc k) s i j n = count_on (behind s j) n (λ p. counted k s i p (n + 1))

abbrev pub counts_own : Result (Unit {0}) Fault → Option (Claim Stage) → State → ℕ → Result (Option ℕ) Fault
counts_own (Err f) r s i = Err f
counts_own (Ok u) None s i = Ok None
counts_own (Ok u) (Some c) s i = if nat_lt c.bin (bins_of s) then counted (sessions_of s) s i i 0 else Err (bad_record i)

abbrev pub counts : State → ℕ → Result (Option ℕ) Fault
counts s i = counts_own (admits_session (nodes_for s.bank.sizes) s.bank.sizes s.memory i) (record_of s i) s i
