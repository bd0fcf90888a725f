-- What each call of the ticket kind answers and leaves.
use Rattle.std.specs.Prelude.{ℕ, Bool, if◌then◌else◌, ◌&&◌, Some, None, Ok, Err, Option, Result, ◌==◌, nat_lt}
use Rattle.bank.specs.Claims.{claim}
use Rattle.bank.specs.Locks.{fitting, record_of, with_record, with_both, laid_with}
use Rattle.bank.specs.Memory.{admits_session, admits_bin}
use Rattle.bank.specs.Outcome.{Outcome, refused, granted}
use Rattle.bank.specs.Refusals.{bad_size, bad_record, out_of_turn}
use Rattle.bank.specs.declared.answers.AskAnswer.{AskAnswer}
use Rattle.bank.specs.declared.answers.AskAnswer.TheVariants.{In as EntersAtOnce, NotYet}
use Rattle.bank.specs.declared.answers.LeaveAnswer.{LeaveAnswer}
use Rattle.bank.specs.declared.answers.LeaveAnswer.TheVariants.{Out as OutAtOnce}
use Rattle.bank.specs.declared.answers.PushAnswer.{PushAnswer}
use Rattle.bank.specs.declared.answers.PushAnswer.TheVariants.{Waits, In}
use Rattle.bank.specs.declared.memory.Claim.{Claim}
use Rattle.bank.specs.declared.memory.Sizes.{Sizes}
use Rattle.bank.specs.declared.refusals.Fault.{Fault}
use Rattle.ticket.specs.declared.Turn.{Turn}
use Rattle.ticket.specs.declared.Turn.TheVariants.{Waiting, Inside}
use Rattle.ticket.specs.State.{State, sessions_of, bins_of, nodes_for, turn, own_record, own_stage, lawful_word, ticket_of}
use Rattle.ticket.specs.Word.{next_of, served_of, word_of, after, past, calm_of}

-- LAYOUT: both halves of every word show the starting age, and nobody has a claim.
abbrev pub laid_out : State → Sizes → ℕ → State
laid_out s z a = laid_with s (record { sizes = z }) (word_of a a)

abbrev pub lays : State → Sizes → ℕ → Outcome (Unit {0}) State
lays s z a = if fitting nodes_for s z && nat_lt a 4294967296 then granted (laid_out s z a) tt else refused s bad_size

-- ASK: takes the next ticket n and raises that half, while v is served; in exactly when n is v.
abbrev pub drawn : State → ℕ → ℕ → ℕ → ℕ → Outcome AskAnswer State
drawn s i b n v =
    record {
      answer = Ok (if n == v then EntersAtOnce else NotYet);
      after = with_both s b (word_of (after n) v) i (Some (claim b (turn n (n == v))));
    }

abbrev pub asks_word : Option (Claim Turn) → Result ℕ Fault → State → ℕ → ℕ → Outcome AskAnswer State
asks_word r (Err f) s i b = refused s f
asks_word (Some c) (Ok w) s i b = refused s (out_of_turn i)
asks_word None (Ok w) s i b = drawn s i b (next_of w) (served_of w)

abbrev pub asks_own : Result (Option (Claim Turn)) Fault → State → ℕ → ℕ → Outcome AskAnswer State
asks_own (Err f) s i b = refused s f
asks_own (Ok r) s i b = asks_word r (lawful_word s b) s i b

abbrev pub asks : State → ℕ → ℕ → Outcome AskAnswer State
asks s i b = asks_own (own_record s i b) s i b

-- PUSH: in exactly when the session's ticket t is the one served, otherwise waits.
abbrev pub called : ℕ → State → ℕ → ℕ → ℕ → Outcome PushAnswer State
called t s i b v = if t == v then granted (with_record s i (Some (claim b (Inside t)))) In else granted s Waits

abbrev pub pushes_word : ℕ → Result ℕ Fault → State → ℕ → ℕ → Outcome PushAnswer State
pushes_word t (Err f) s i b = refused s f
pushes_word t (Ok w) s i b = called t s i b (served_of w)

abbrev pub pushes_own : Result Turn Fault → State → ℕ → ℕ → Outcome PushAnswer State
pushes_own (Err f) s i b = refused s f
pushes_own (Ok (Inside t)) s i b = refused s (out_of_turn i)
pushes_own (Ok (Waiting t)) s i b = pushes_word t (lawful_word s b) s i b

abbrev pub pushes : State → ℕ → ℕ → Outcome PushAnswer State
pushes s i b = pushes_own (own_stage s i b) s i b

-- LEAVE: raises the served half, and the session is out.
abbrev pub served_next : State → ℕ → ℕ → ℕ → Outcome LeaveAnswer State
served_next s i b w = granted (with_both s b (word_of (next_of w) (after (served_of w))) i None) OutAtOnce

abbrev pub leaves_word : Result ℕ Fault → State → ℕ → ℕ → Outcome LeaveAnswer State
leaves_word (Err f) s i b = refused s f
leaves_word (Ok w) s i b = served_next s i b w

abbrev pub leaves_own : Result Turn Fault → State → ℕ → ℕ → Outcome LeaveAnswer State
leaves_own (Err f) s i b = refused s f
leaves_own (Ok (Waiting t)) s i b = refused s (out_of_turn i)
leaves_own (Ok (Inside t)) s i b = leaves_word (lawful_word s b) s i b

abbrev pub leaves : State → ℕ → ℕ → Outcome LeaveAnswer State
leaves s i b = leaves_own (own_stage s i b) s i b

-- PEEK: the word is the mark.
abbrev pub peeks_word : Result (Unit {0}) Fault → Result ℕ Fault → Result (ℕ × Bool) Fault
peeks_word (Err f) w = Err f
peeks_word (Ok u) (Err f) = Err f
peeks_word (Ok u) (Ok w) = Ok (w, calm_of w)

abbrev pub peeks : State → ℕ → Result (ℕ × Bool) Fault
peeks s b = peeks_word (admits_bin 0 s.bank.sizes s.memory b) (lawful_word s b)

-- AHEAD: how far the session's ticket is past the one served; 9 where that is as many as there are sessions, or more.
abbrev pub few_ahead : ℕ → ℕ → ℕ → Result (Option ℕ) Fault
few_ahead sessions i n = if nat_lt n sessions then Ok (Some n) else Err (bad_record i)

abbrev pub counts_word : Claim Turn → Result ℕ Fault → State → ℕ → Result (Option ℕ) Fault
counts_word c (Err f) s i = Err f
counts_word c (Ok w) s i = few_ahead (sessions_of s) i (past (ticket_of c.stage) (served_of w))

abbrev pub counts_own : Result (Unit {0}) Fault → Option (Claim Turn) → State → ℕ → Result (Option ℕ) Fault
counts_own (Err f) r s i = Err f
counts_own (Ok u) None s i = Ok None
counts_own (Ok u) (Some c) s i = if nat_lt c.bin (bins_of s) then counts_word c (lawful_word s c.bin) s i else Err (bad_record i)

abbrev pub counts : State → ℕ → Result (Option ℕ) Fault
counts s i = counts_own (admits_session 0 s.bank.sizes s.memory i) (record_of s i) s i
