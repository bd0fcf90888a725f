-- The ways that an ask, a push and a leave may go, at any state.
use Rattle.std.specs.Prelude.{◌≡◌, ℕ, ◌<◌, true, false, Some, None, Ok, Err, Option, Result, nat_lt, refl}
use Rattle.std.proofs.Common.{subst}
use Rattle.std.proofs.lemmas.Bool.{ltb-true, cond_both}
use Rattle.bank.specs.Locks.{node_of}
use Rattle.bank.specs.Outcome.{Outcome, granted, refused}
use Rattle.bank.specs.Refusals.{bad_record, bad_word, out_of_turn}
use Rattle.bank.specs.declared.answers.AskAnswer.{AskAnswer}
use Rattle.bank.specs.declared.answers.AskAnswer.TheVariants.{In as EntersAtOnce, NotYet}
use Rattle.bank.specs.declared.answers.LeaveAnswer.{LeaveAnswer}
use Rattle.bank.specs.declared.answers.LeaveAnswer.TheVariants.{Moved as StillLeaving}
use Rattle.bank.specs.declared.answers.PushAnswer.{PushAnswer}
use Rattle.bank.specs.declared.answers.PushAnswer.TheVariants.{Waits, Moved, In, Out}
use Rattle.bank.specs.declared.memory.Claim.{Claim}
use Rattle.bank.specs.declared.refusals.Fault.{Fault}
use Rattle.bank.proofs.Admission.{Admitted, Own, owned}
use Rattle.bank.proofs.Admission as admission
use Rattle.queuing.specs.declared.Stage.{Stage}
use Rattle.queuing.specs.declared.Stage.TheVariants.{Link, See, Close, Inside, Try, Open, Await, Hand}
use Rattle.queuing.specs.declared.word.Word.{Word}
use Rattle.queuing.specs.declared.word.Word.TheVariants.{Free, Held, Window}
use Rattle.queuing.specs.Actions.{entered_at_once, lined_up, exchange, linked, link_to, see_own, see_version, shut, close_word, look_own, look_next, freed, free_with, try_word, window_opened, open_with, open_word, await_own, await_next, handed, hand_with, hand_to}
use Rattle.queuing.specs.Calls.{asks_word, asks_own, asks, pushes_at, pushes_own, pushes, leaves_own, leaves}
use Rattle.queuing.specs.Meaning.{said}
use Rattle.queuing.specs.State.{State, sessions_of, staged, entered, own_record, own_stage, lawful, lawful_word, below, needed_below, own_version}
use Rattle.queuing.specs.Word.{held_by, versions}
use Rattle.queuing.specs.Stages.{only_inside}

-- a call past the refusals 1, 2 and 3 whose own record r is in range
abbrev pub Owns : State → ℕ → ℕ → Option (Claim Stage) → Type 0
Owns s i b r = Own (sessions_of s) s.bank.sizes s.memory i b r

-- a call past these refusals of a session at stage g at the bin
abbrev pub At : State → ℕ → ℕ → Stage → Type 0
At s i b g = admission.At (sessions_of s) s.bank.sizes s.memory i b g

-- WHAT IS READ, or the call is refused
stage_cases :
    (s : State) (i b : ℕ) (P : Result Stage Fault → Type 0) → ((g : Stage) → At s i b g → P (Ok g)) →
    ((f : Fault) → P (Err f)) → P (own_stage s i b)
stage_cases s = admission.stage_cases (sessions_of s) s.bank.sizes s.memory

below_cases :
    (bound i x : ℕ) (P : Result ℕ Fault → Type 0) → (x < bound → P (Ok x)) → ((f : Fault) → P (Err f)) →
    P (below bound i x)
below_cases bound i x P present absent =
    cond_both (nat_lt x bound) (Ok x) (Err (bad_record i)) P (λ e. present (ltb-true x bound e)) (λ e. absent (bad_record i))

needed_cases :
    (bound i : ℕ) (o : Option ℕ) (P : Result ℕ Fault → Type 0) → ((x : ℕ) → o ≡ Some x → x < bound → P (Ok x)) →
    ((f : Fault) → P (Err f)) → P (needed_below bound i o)
needed_cases bound i None P present absent = absent (bad_record i)
needed_cases bound i (Some x) P present absent = below_cases bound i x P (present x refl) absent

lawful_cases :
    (o : Option Word) (b : ℕ) (P : Result Word Fault → Type 0) → ((w : Word) → o ≡ Some w → P (Ok w)) →
    ((f : Fault) → P (Err f)) → P (lawful o b)
lawful_cases None b P present absent = absent (bad_word b)
lawful_cases (Some w) b P present absent = present w refl

-- ASK
-- the node that a word names
abbrev pub names : Word → Option ℕ
names (Free v) = None
names (Held p) = Some p
names (Window p v) = Some p

pub data AskView (s : State) (i b : ℕ) : Outcome AskAnswer State → Type 0 where
  ask_refused : (f : Fault) → AskView s i b (refused s f)
  ask_enters :
      (v : ℕ) → Owns s i b None → said s b ≡ Some (Free v) → AskView s i b (granted (entered_at_once s i b v) EntersAtOnce)
  ask_lines_up :
      (w : Word) (p : ℕ) → Owns s i b None → said s b ≡ Some w → names w ≡ Some p →
      AskView s i b (granted (lined_up s i b p) NotYet)

pub ask_view : (s : State) (i b : ℕ) → AskView s i b (asks s i b)
ask_view s i b = go (own_record s i b) refl
  where
    exchanged : (w : Word) → Owns s i b None → said s b ≡ Some w → AskView s i b (exchange w s i b)
    exchanged (Free v) o e = ask_enters v o e
    exchanged (Held p) o e = ask_lines_up (Held p) p o e refl
    exchanged (Window p v) o e = ask_lines_up (Window p v) p o e refl

    word : (r : Option (Claim Stage)) → Owns s i b r → AskView s i b (asks_word r (lawful_word s b) s i b)
    word (Some c) o =
        lawful_cases
        (said s b)
        b
        (λ x. AskView s i b (asks_word (Some c) x s i b))
        (λ w e. ask_refused (out_of_turn i))
        ask_refused
    word None o =
        lawful_cases (said s b) b (λ x. AskView s i b (asks_word None x s i b)) (λ w e. exchanged w o e) ask_refused

    go : (a : Result (Option (Claim Stage)) Fault) → own_record s i b ≡ a → AskView s i b (asks_own a s i b)
    go (Err f) e = ask_refused f
    go (Ok r) e = word r (owned (sessions_of s) s.bank.sizes s.memory i b r e)

-- PUSH
pub data PushView (s : State) (i b : ℕ) : Outcome PushAnswer State → Type 0 where
  push_refused : (f : Fault) → PushView s i b (refused s f)
  links : (p : ℕ) → At s i b (Link p) → p < sessions_of s → PushView s i b (granted (linked s i b p) Moved)
  waits_to_see : (p : ℕ) → At s i b (See p) → (node_of s i).version ≡ None → PushView s i b (granted s Waits)
  sees :
      (p v : ℕ) → At s i b (See p) → (node_of s i).version ≡ Some v → PushView s i b (granted (staged s i b Close) Moved)
  closes : At s i b Close → PushView s i b (granted (shut s i b) In)
  tries :
      (w : Word) → At s i b Try → said s b ≡ Some w → held_by w i ≡ false →
      PushView s i b (granted (staged s i b Open) Moved)
  frees :
      (w : Word) (v : ℕ) → At s i b Try → said s b ≡ Some w → held_by w i ≡ true → (node_of s i).version ≡ Some v →
      PushView s i b (granted (freed s i b v) Out)
  opens :
      (v : ℕ) → At s i b Open → (node_of s i).version ≡ Some v → PushView s i b (granted (window_opened s i b v) Moved)
  waits_for_next : At s i b Await → (node_of s i).next ≡ None → PushView s i b (granted s Waits)
  awaits : (q : ℕ) → At s i b Await → (node_of s i).next ≡ Some q → PushView s i b (granted (staged s i b Hand) Moved)
  hands :
      (q v : ℕ) → At s i b Hand → (node_of s i).next ≡ Some q → (node_of s i).version ≡ Some v →
      PushView s i b (granted (handed s i q v) Out)

pub push_view : (s : State) (i b : ℕ) → PushView s i b (pushes s i b)
push_view s i b = stage_cases s i b (λ x. PushView s i b (pushes_own x s i b)) stages push_refused
  where
    see_view :
        (p : ℕ) → At s i b (See p) → (x : Option ℕ) → (node_of s i).version ≡ x → PushView s i b (see_own x s i b)
    see_view p a None e = waits_to_see p a e
    see_view p a (Some v) e =
        below_cases versions i v (λ x. PushView s i b (see_version x s i b)) (λ l. sees p v a e) push_refused

    await_view : At s i b Await → (x : Option ℕ) → (node_of s i).next ≡ x → PushView s i b (await_own x s i b)
    await_view a None e = waits_for_next a e
    await_view a (Some q) e =
        below_cases (sessions_of s) i q (λ x. PushView s i b (await_next x s i b)) (λ l. awaits q a e) push_refused

    try_view : (w : Word) → At s i b Try → said s b ≡ Some w → PushView s i b (try_word (Ok w) s i b)
    try_view w a e =
        cond_both
        (held_by w i)
        _
        _
        (PushView s i b)
        (λ h.
        needed_cases
        versions
        i
        (node_of s i).version
        (λ x. PushView s i b (free_with x s i b))
        (λ v k l. frees w v a e h k)
        push_refused)
        (λ h. tries w a e h)

    open_view : At s i b Open → PushView s i b (open_with (own_version s i) s i b)
    open_view a =
        needed_cases
        versions
        i
        (node_of s i).version
        (λ x. PushView s i b (open_with x s i b))
        (λ v k l. opens v a k)
        push_refused

    hand_view :
        (q : ℕ) → At s i b Hand → (node_of s i).next ≡ Some q → PushView s i b (hand_with q (own_version s i) s i)
    hand_view q a e =
        needed_cases
        versions
        i
        (node_of s i).version
        (λ x. PushView s i b (hand_with q x s i))
        (λ v k l. hands q v a e k)
        push_refused

    stages : (g : Stage) → At s i b g → PushView s i b (pushes_at g s i b)
    stages (Link p) a =
        below_cases (sessions_of s) i p (λ x. PushView s i b (link_to x s i b)) (λ l. links p a l) push_refused
    stages (See p) a = see_view p a (node_of s i).version refl
    stages Close a =
        lawful_cases (said s b) b (λ x. PushView s i b (close_word x s i b)) (λ w e. closes a) push_refused
    stages Inside a = push_refused (out_of_turn i)
    stages Try a =
        lawful_cases (said s b) b (λ x. PushView s i b (try_word x s i b)) (λ w e. try_view w a e) push_refused
    stages Open a =
        lawful_cases (said s b) b (λ x. PushView s i b (open_word x s i b)) (λ w e. open_view a) push_refused
    stages Await a = await_view a (node_of s i).next refl
    stages Hand a =
        needed_cases
        (sessions_of s)
        i
        (node_of s i).next
        (λ x. PushView s i b (hand_to x s i))
        (λ q e l. hand_view q a e)
        push_refused

-- LEAVE
pub data LeaveView (s : State) (i b : ℕ) : Outcome LeaveAnswer State → Type 0 where
  leave_refused : (f : Fault) → LeaveView s i b (refused s f)
  looks_alone : At s i b Inside → (node_of s i).next ≡ None → LeaveView s i b (granted (staged s i b Try) StillLeaving)
  looks_back :
      (q : ℕ) → At s i b Inside → (node_of s i).next ≡ Some q →
      LeaveView s i b (granted (staged s i b Open) StillLeaving)

pub leave_view : (s : State) (i b : ℕ) → LeaveView s i b (leaves s i b)
leave_view s i b = stage_cases s i b (λ x. LeaveView s i b (leaves_own x s i b)) stages leave_refused
  where
    look_view : At s i b Inside → (x : Option ℕ) → (node_of s i).next ≡ x → LeaveView s i b (look_own x s i b)
    look_view a None e = looks_alone a e
    look_view a (Some q) e =
        below_cases (sessions_of s) i q (λ x. LeaveView s i b (look_next x s i b)) (λ l. looks_back q a e) leave_refused

    stages : (g : Stage) → At s i b g → LeaveView s i b (leaves_own (Ok g) s i b)
    stages g a =
        cond_both
        (entered g)
        _
        _
        (LeaveView s i b)
        (λ q. look_view (subst (At s i b) (only_inside g q) a) (node_of s i).next refl)
        (λ q. leave_refused (out_of_turn i))
