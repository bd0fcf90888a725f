-- The central kind as a value, and its invariant at every reached state.
use Rattle.std.specs.Prelude.{◌≡◌, ℕ, true, false, is_ok, refl}
use Rattle.std.proofs.Common.{ap}
use Rattle.std.proofs.lemmas.Bool.{cond_both}
use Rattle.bank.specs.Claims.{passes, at_stage, askers}
use Rattle.bank.specs.Kind.{Kind, kind, Reached, after_layout, after_ask, after_push, after_leave}
use Rattle.bank.specs.Locks.{fitting, with_bank, word_at}
use Rattle.bank.specs.Outcome.{Outcome}
use Rattle.bank.specs.declared.answers.AskAnswer.{AskAnswer}
use Rattle.bank.specs.declared.answers.LeaveAnswer.{LeaveAnswer}
use Rattle.bank.specs.declared.answers.PushAnswer.{PushAnswer}
use Rattle.bank.specs.declared.memory.Sizes.{Sizes}
use Rattle.bank.proofs.Layouts.{layout_granted}
use Rattle.central.specs.declared.Stage.TheVariants.{Look, Swap}
use Rattle.central.specs.Calls as calls
use Rattle.central.specs.Calls.{after_look}
use Rattle.central.specs.Meaning as meaning
use Rattle.central.specs.State.{State, nodes_for, entered}
use Rattle.central.specs.Word.{unlocked, lock_bit, age_of}
use Rattle.central.specs.Invariant.{Invariant, holds, sound_stage, outside, laid_invariant, moved_invariant, entry_invariant, exit_invariant}
use Rattle.central.specs.Views.{AskView, ask_view, ask_refused, ask_joins, PushView, push_view, push_refused, push_waits, push_moves, push_enters, LeaveView, leave_view, leave_refused, leave_exits}

abbrev pub central : Kind State
central =
    kind
    (λ s. s.bank.sizes)
    nodes_for
    (fitting nodes_for)
    (with_bank (λ k. k))
    lock_bit
    askers
    meaning.leaving
    meaning.inside
    meaning.age
    meaning.calm
    meaning.mark
    unlocked
    age_of
    false
    meaning.line
    meaning.needed
    0
    0
    calls.lays
    calls.asks
    calls.pushes
    calls.leaves
    calls.peeks
    calls.counts

-- a look remembers a word only if it is unlocked, and is no entry
look_sound : (w : ℕ) → sound_stage (after_look w) ≡ true
look_sound w = cond_both (unlocked w) (Swap w) Look (λ g. sound_stage g ≡ true) (λ e. e) (λ e. refl)

pub look_outside : (w : ℕ) → entered (after_look w) ≡ false
look_outside w = cond_both (unlocked w) (Swap w) Look (λ g. entered g ≡ false) (λ e. refl) (λ e. refl)

-- the invariant holds after a granted layout, and every call keeps it
layout_keeps : (s : State) (z : Sizes) (a : ℕ) → is_ok (calls.lays s z a).answer ≡ true → Invariant (calls.lays s z a).after
layout_keeps s z a h =
    let g = layout_granted central calls.laid_out (λ s z a. refl) s z a h in
    rw g.2 (laid_invariant s z a g.0 g.1)

ask_keeps : (s : State) (i b : ℕ) (o : Outcome AskAnswer State) → AskView s i b o → Invariant s → Invariant o.after
ask_keeps s i b o (ask_refused f) I = I
ask_keeps s i b o (ask_joins q) I =
    let w = word_at s b in
    let old : (c : ℕ) → holds s c i ≡ false = λ c. ap (passes (at_stage entered c)) q.read in
    moved_invariant s i b (after_look w) I q.admitted.session q.admitted.bin old (look_sound w) (look_outside w)

push_keeps :
    (s : State) (i b : ℕ) (o : Outcome PushAnswer State) → PushView s i b o → Invariant s → Invariant o.after
push_keeps s i b o (push_refused f) I = I
push_keeps s i b o push_waits I = I
push_keeps s i b o (push_moves c g q eb eo es ei) I =
    moved_invariant s i b g I q.admitted.session q.admitted.bin (outside s i c q.read eo) es ei
push_keeps s i b o (push_enters c q eb eo l) I =
    entry_invariant s i b I q.admitted.session q.admitted.bin (outside s i c q.read eo) l

leave_keeps :
    (s : State) (i b : ℕ) (o : Outcome LeaveAnswer State) → LeaveView s i b o → Invariant s → Invariant o.after
leave_keeps s i b o (leave_refused f) I = I
leave_keeps s i b o (leave_exits c q eb ei) I =
    exit_invariant s i b c I q.admitted.session q.admitted.bin q.read eb ei

pub reached_invariant : {s : State} → Reached central s → Invariant s
reached_invariant (after_layout s z a h) = layout_keeps s z a h
reached_invariant (after_ask s i b r) = ask_keeps s i b (calls.asks s i b) (ask_view s i b) (reached_invariant r)
reached_invariant (after_push s i b r) = push_keeps s i b (calls.pushes s i b) (push_view s i b) (reached_invariant r)
reached_invariant (after_leave s i b r) = leave_keeps s i b (calls.leaves s i b) (leave_view s i b) (reached_invariant r)
