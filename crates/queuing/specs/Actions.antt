-- The nine actions: what each answers and leaves. Session i acts at bin b. An action reads a stored number before it
-- writes, and refuses by 9 the first one that is out of its range.
use Rattle.std.specs.Prelude.{ℕ, if◌then◌else◌, Some, None, Ok, Err, Option, Result}
use Rattle.bank.specs.Claims.{claim}
use Rattle.bank.specs.Locks.{word_at, node_of, with_word, with_both, with_node}
use Rattle.bank.specs.Outcome.{Outcome, granted, refused}
use Rattle.bank.specs.declared.answers.AskAnswer.{AskAnswer}
use Rattle.bank.specs.declared.answers.AskAnswer.TheVariants.{In as EntersAtOnce, NotYet}
use Rattle.bank.specs.declared.answers.LeaveAnswer.{LeaveAnswer}
use Rattle.bank.specs.declared.answers.LeaveAnswer.TheVariants.{Moved as StillLeaving}
use Rattle.bank.specs.declared.answers.PushAnswer.{PushAnswer}
use Rattle.bank.specs.declared.answers.PushAnswer.TheVariants.{Waits, Moved, In, Out}
use Rattle.bank.specs.declared.refusals.Fault.{Fault}
use Rattle.queuing.specs.declared.Stage.TheVariants.{Link, See, Close, Inside, Try, Open, Await, Hand}
use Rattle.queuing.specs.declared.word.Word.{Word}
use Rattle.queuing.specs.declared.word.Word.TheVariants.{Free, Held, Window}
use Rattle.queuing.specs.State.{State, sessions_of, staged, released, with_next, with_version, lawful_word, below, own_version, own_next}
use Rattle.queuing.specs.Word.{packed, closed, opened, held_by, next_version, versions}

-- 1. EXCHANGE. The word becomes held with the own number. If it was free, the own version is the old one plus one and
-- the session is in; otherwise the old node number is remembered.
abbrev pub entered_at_once : State → ℕ → ℕ → ℕ → State
entered_at_once s i b v =
    with_node (with_both s b (packed (Held i)) i (Some (claim b Inside))) i (with_version (node_of s i) (next_version v))

abbrev pub lined_up : State → ℕ → ℕ → ℕ → State
lined_up s i b p = with_both s b (packed (Held i)) i (Some (claim b (Link p)))

abbrev pub exchange : Word → State → ℕ → ℕ → Outcome AskAnswer State
exchange (Free v) s i b = granted (entered_at_once s i b v) EntersAtOnce
exchange (Held p) s i b = granted (lined_up s i b p) NotYet
exchange (Window p v) s i b = granted (lined_up s i b p) NotYet

-- 2. LINK. The remembered node's next becomes the own number.
abbrev pub linked : State → ℕ → ℕ → ℕ → State
linked s i b p = with_node (staged s i b (See p)) p (with_next (node_of s p) i)

abbrev pub link_to : Result ℕ Fault → State → ℕ → ℕ → Outcome PushAnswer State
link_to (Err f) s i b = refused s f
link_to (Ok p) s i b = granted (linked s i b p) Moved

abbrev pub link : ℕ → State → ℕ → ℕ → Outcome PushAnswer State
link p s i b = link_to (below (sessions_of s) i p) s i b

-- 3. SEE. Without an own version the session waits.
abbrev pub see_version : Result ℕ Fault → State → ℕ → ℕ → Outcome PushAnswer State
see_version (Err f) s i b = refused s f
see_version (Ok v) s i b = granted (staged s i b Close) Moved

abbrev pub see_own : Option ℕ → State → ℕ → ℕ → Outcome PushAnswer State
see_own None s i b = granted s Waits
see_own (Some v) s i b = see_version (below versions i v) s i b

abbrev pub see : State → ℕ → ℕ → Outcome PushAnswer State
see s i b = see_own (node_of s i).version s i b

-- 4. CLOSE. The word's window bit and version become zero, and the session is in.
abbrev pub shut : State → ℕ → ℕ → State
shut s i b = with_both s b (closed (word_at s b)) i (Some (claim b Inside))

abbrev pub close_word : Result Word Fault → State → ℕ → ℕ → Outcome PushAnswer State
close_word (Err f) s i b = refused s f
close_word (Ok w) s i b = granted (shut s i b) In

abbrev pub close : State → ℕ → ℕ → Outcome PushAnswer State
close s i b = close_word (lawful_word s b) s i b

-- 5. LOOK. Without an own next a try follows, otherwise an open.
abbrev pub look_next : Result ℕ Fault → State → ℕ → ℕ → Outcome LeaveAnswer State
look_next (Err f) s i b = refused s f
look_next (Ok q) s i b = granted (staged s i b Open) StillLeaving

abbrev pub look_own : Option ℕ → State → ℕ → ℕ → Outcome LeaveAnswer State
look_own None s i b = granted (staged s i b Try) StillLeaving
look_own (Some q) s i b = look_next (below (sessions_of s) i q) s i b

abbrev pub look : State → ℕ → ℕ → Outcome LeaveAnswer State
look s i b = look_own (node_of s i).next s i b

-- 6. TRY. A word held with the own number becomes free with the own version, the node is emptied, and the session is
-- out. Otherwise an open follows.
abbrev pub freed : State → ℕ → ℕ → ℕ → State
freed s i b v = released (with_word s b (packed (Free v))) i

abbrev pub free_with : Result ℕ Fault → State → ℕ → ℕ → Outcome PushAnswer State
free_with (Err f) s i b = refused s f
free_with (Ok v) s i b = granted (freed s i b v) Out

abbrev pub try_word : Result Word Fault → State → ℕ → ℕ → Outcome PushAnswer State
try_word (Err f) s i b = refused s f
try_word (Ok w) s i b = if held_by w i then free_with (own_version s i) s i b else granted (staged s i b Open) Moved

abbrev pub try : State → ℕ → ℕ → Outcome PushAnswer State
try s i b = try_word (lawful_word s b) s i b

-- 7. OPEN. The word gains the window bit and the own version, and keeps its node number.
abbrev pub window_opened : State → ℕ → ℕ → ℕ → State
window_opened s i b v = with_both s b (opened (word_at s b) v) i (Some (claim b Await))

abbrev pub open_with : Result ℕ Fault → State → ℕ → ℕ → Outcome PushAnswer State
open_with (Err f) s i b = refused s f
open_with (Ok v) s i b = granted (window_opened s i b v) Moved

abbrev pub open_word : Result Word Fault → State → ℕ → ℕ → Outcome PushAnswer State
open_word (Err f) s i b = refused s f
open_word (Ok w) s i b = open_with (own_version s i) s i b

abbrev pub open_window : State → ℕ → ℕ → Outcome PushAnswer State
open_window s i b = open_word (lawful_word s b) s i b

-- 8. AWAIT. Without an own next the session waits.
abbrev pub await_next : Result ℕ Fault → State → ℕ → ℕ → Outcome PushAnswer State
await_next (Err f) s i b = refused s f
await_next (Ok q) s i b = granted (staged s i b Hand) Moved

abbrev pub await_own : Option ℕ → State → ℕ → ℕ → Outcome PushAnswer State
await_own None s i b = granted s Waits
await_own (Some q) s i b = await_next (below (sessions_of s) i q) s i b

abbrev pub await : State → ℕ → ℕ → Outcome PushAnswer State
await s i b = await_own (node_of s i).next s i b

-- 9. HAND. The next node's version becomes the own one plus one, the own node is emptied, and the session is out.
abbrev pub handed : State → ℕ → ℕ → ℕ → State
handed s i q v = released (with_node s q (with_version (node_of s q) (next_version v))) i

abbrev pub hand_with : ℕ → Result ℕ Fault → State → ℕ → Outcome PushAnswer State
hand_with q (Err f) s i = refused s f
hand_with q (Ok v) s i = granted (handed s i q v) Out

abbrev pub hand_to : Result ℕ Fault → State → ℕ → Outcome PushAnswer State
hand_to (Err f) s i = refused s f
hand_to (Ok q) s i = hand_with q (own_version s i) s i

abbrev pub hand : State → ℕ → Outcome PushAnswer State
hand s i = hand_to (own_next s i) s i
