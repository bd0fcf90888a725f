-- The ways that an ask, a push and a leave may go, at any state.
use Rattle.std.specs.Prelude.{◌≡◌, ℕ, ◌<◌, true, false, Some, None, Ok, Err, Option, Result, ◌==◌, refl}
use Rattle.std.proofs.Common.{ap, ◌∙◌}
use Rattle.std.proofs.lemmas.Bool.{eqb-true, lt-ltb, ltb-true, cond_both}
use Rattle.bank.specs.Claims.{claim}
use Rattle.bank.specs.Locks.{word_at, with_both}
use Rattle.bank.specs.Outcome.{Outcome, refused, granted}
use Rattle.bank.specs.Refusals.{bad_record, out_of_turn}
use Rattle.bank.specs.declared.answers.AskAnswer.{AskAnswer}
use Rattle.bank.specs.declared.answers.AskAnswer.TheVariants.{NotYet}
use Rattle.bank.specs.declared.answers.LeaveAnswer.{LeaveAnswer}
use Rattle.bank.specs.declared.answers.LeaveAnswer.TheVariants.{Out as OutAtOnce}
use Rattle.bank.specs.declared.answers.PushAnswer.{PushAnswer}
use Rattle.bank.specs.declared.answers.PushAnswer.TheVariants.{Waits, Moved, In}
use Rattle.bank.specs.declared.memory.Claim.{Claim}
use Rattle.bank.specs.declared.refusals.Fault.{Fault}
use Rattle.bank.proofs.Admission.{Own, owned, At, stage_cases}
use Rattle.central.specs.declared.Stage.{Stage}
use Rattle.central.specs.declared.Stage.TheVariants.{Look, Swap, Inside}
use Rattle.central.specs.Calls.{staged, after_look, asks, asks_own, pushes, pushes_at, pushes_own, swaps, leaves, leaves_own}
use Rattle.central.specs.State.{State, entered, own_record}
use Rattle.central.specs.Word.{lock_bit, unlocked, locked, released}
use Rattle.central.specs.Invariant.{sound_stage}

-- a call past the refusals 1, 2 and 3 whose own record r is in range
abbrev pub Owns : State → ℕ → ℕ → Option (Claim Stage) → Type 0
Owns s i b r = Own 0 s.bank.sizes s.memory i b r

owner : {s : State} {i b : ℕ} {g : Stage} → At 0 s.bank.sizes s.memory i b g → Owns s i b (Some (claim b g))
owner {b = b} a = record { admitted = a.admitted; read = a.read; ranged = lt-ltb b _ a.admitted.bin }

pub data AskView (s : State) (i b : ℕ) : Outcome AskAnswer State → Type 0 where
  ask_refused : (f : Fault) → AskView s i b (refused s f)
  ask_joins : Owns s i b None → AskView s i b (granted (staged s i b (after_look (word_at s b))) NotYet)

pub ask_view : (s : State) (i b : ℕ) → AskView s i b (asks s i b)
ask_view s i b = go (own_record s i b) refl
  where
    go : (a : Result (Option (Claim Stage)) Fault) → own_record s i b ≡ a → AskView s i b (asks_own a s i b)
    go (Err f) e = ask_refused f
    go (Ok (Some c)) e = ask_refused (out_of_turn i)
    go (Ok None) e = ask_joins (owned 0 s.bank.sizes s.memory i b None e)

pub data PushView (s : State) (i b : ℕ) : Outcome PushAnswer State → Type 0 where
  push_refused : (f : Fault) → PushView s i b (refused s f)
  push_waits : PushView s i b (granted s Waits)
  push_moves :
      (c : Claim Stage) (g : Stage) → Owns s i b (Some c) → c.bin ≡ b → entered c.stage ≡ false →
      sound_stage g ≡ true → entered g ≡ false → PushView s i b (granted (staged s i b g) Moved)
  push_enters :
      (c : Claim Stage) → Owns s i b (Some c) → c.bin ≡ b → entered c.stage ≡ false →
      word_at s b < lock_bit → PushView s i b (granted (with_both s b (locked (word_at s b)) i (Some (claim b Inside))) In)

pub push_view : (s : State) (i b : ℕ) → PushView s i b (pushes s i b)
push_view s i b = stage_cases 0 s.bank.sizes s.memory i b (λ x. PushView s i b (pushes_own x s i b)) stages push_refused
  where
    entry :
        (w : ℕ) → At 0 s.bank.sizes s.memory i b (Swap w) → unlocked w ≡ true → word_at s b ≡ w →
        PushView s i b (granted (with_both s b (locked w) i (Some (claim b Inside))) In)
    entry w a u e =
        let l = ltb-true (word_at s b) lock_bit (ap unlocked e ∙ u) in
        rw (← e) (push_enters (claim b (Swap w)) (owner a) refl refl l)

    stages : (g : Stage) → At 0 s.bank.sizes s.memory i b g → PushView s i b (pushes_at g s i b)
    stages Look a =
        cond_both
        (unlocked (word_at s b))
        _
        _
        (PushView s i b)
        (λ u. push_moves (claim b Look) (Swap (word_at s b)) (owner a) refl refl u refl)
        (λ u. push_waits)
    stages (Swap w) a =
        cond_both (unlocked w) _ _ (PushView s i b) (λ u. swap u) (λ u. push_refused (bad_record i))
      where
        swap : unlocked w ≡ true → PushView s i b (swaps w s i b)
        swap u =
            cond_both
            (word_at s b == w)
            _
            _
            (PushView s i b)
            (λ e. entry w a u (eqb-true (word_at s b) w e))
            (λ e. push_moves (claim b (Swap w)) Look (owner a) refl refl refl refl)
    stages Inside a = push_refused (out_of_turn i)

pub data LeaveView (s : State) (i b : ℕ) : Outcome LeaveAnswer State → Type 0 where
  leave_refused : (f : Fault) → LeaveView s i b (refused s f)
  leave_exits :
      (c : Claim Stage) → Owns s i b (Some c) → c.bin ≡ b → entered c.stage ≡ true →
      LeaveView s i b (granted (with_both s b (released (word_at s b)) i None) OutAtOnce)

pub leave_view : (s : State) (i b : ℕ) → LeaveView s i b (leaves s i b)
leave_view s i b = stage_cases 0 s.bank.sizes s.memory i b (λ x. LeaveView s i b (leaves_own x s i b)) stages leave_refused
  where
    stages : (g : Stage) → At 0 s.bank.sizes s.memory i b g → LeaveView s i b (leaves_own (Ok g) s i b)
    stages g a =
        cond_both
        (entered g)
        _
        _
        (LeaveView s i b)
        (λ q. leave_exits (claim b g) (owner a) refl q)
        (λ q. leave_refused (out_of_turn i))
