-- The invariant at every reached state.
use Rattle.std.specs.Prelude.{◌≡◌, ℕ, zero, suc, ◌<◌, true, [], length, replicate, is_ok, None, slice_index_or, refl}
use Rattle.std.proofs.Common.{ap, arith}
use Rattle.std.proofs.lemmas.List.{length-replicate, get_or-replicate}
use Rattle.bank.specs.Claims.{passes, at}
use Rattle.bank.specs.Kind.{Reached, after_layout, after_ask, after_push, after_leave}
use Rattle.bank.specs.Locks.{fitting, record_of}
use Rattle.bank.specs.Memory.{in_range, empty_node}
use Rattle.bank.specs.Outcome.{Outcome}
use Rattle.bank.specs.declared.answers.AskAnswer.{AskAnswer}
use Rattle.bank.specs.declared.answers.LeaveAnswer.{LeaveAnswer}
use Rattle.bank.specs.declared.answers.PushAnswer.{PushAnswer}
use Rattle.bank.specs.declared.memory.Sizes.{Sizes}
use Rattle.bank.proofs.Admission.{sized}
use Rattle.bank.proofs.Layouts.{layout_granted}
use Rattle.queuing.specs.declared.word.Word.TheVariants.{Free}
use Rattle.queuing.specs.Calls.{laid_out, lays}
use Rattle.queuing.specs.State.{State, nodes_for}
use Rattle.queuing.specs.Word.{packed, versions}
use Rattle.queuing.specs.Invariant.{Bin, Invariant}
use Rattle.queuing.specs.Kind.{queuing}
use Rattle.queuing.specs.Views.{ask_view, push_view, leave_view}
use Rattle.queuing.specs.Ways.{Asked, asked, refused_ask, joins_first, joins_last, Pushed, pushed, refused_push, waits, moves, enters, exits, Left, left, refused_leave, leaves as leaves_on}

-- LAYOUT
get_or_filled : {A : Type 0} (n i : ℕ) (x : A) → slice_index_or (replicate n x) i x ≡ x
get_or_filled zero i x = refl
get_or_filled (suc n) zero x = refl
get_or_filled (suc n) (suc i) x = get_or_filled n i x

module _ (s : State) (z : Sizes) (a : ℕ) (h : fitting nodes_for s z ≡ true) where
  pub laid_fit : fitting nodes_for (laid_out s z a) z ≡ true
  laid_fit = simp length-replicate h

  pub laid_record : (i : ℕ) → record_of (laid_out s z a) i ≡ None
  laid_record i = get_or_filled (length s.memory.records) i None

  pub laid_bin : a < versions → (b : ℕ) → b < z.bins → Bin (laid_out s z a) b (Free a) []
  laid_bin l b k =
      let y = sized z.sessions z s.memory h in
      record {
        stored = get_or-replicate (length s.memory.words) b (packed (Free a)) 0 (omega arith);
        stands = record { queue = l; apart = tt; members = λ j. ap (passes (at b)) (laid_record j) };
      }

  pub laid_invariant : a < versions → Invariant (laid_out s z a)
  laid_invariant l =
      record {
        fit = laid_fit;
        ranged = λ i. ap (in_range z.bins) (laid_record i);
        idle = λ i e. get_or_filled (length s.memory.nodes) i empty_node;
        bin = λ b k. (Free a, [], laid_bin l b k);
      }

-- EVERY CALL keeps the invariant
lays_keeps : (s : State) (z : Sizes) (a : ℕ) → is_ok (lays s z a).answer ≡ true → Invariant (lays s z a).after
lays_keeps s z a h =
    let g = layout_granted queuing laid_out (λ s z a. refl) s z a h in
    rw g.2 (laid_invariant s z a g.0 g.1)

ask_keeps : {s : State} {i b : ℕ} {o : Outcome AskAnswer State} → Invariant s → Asked s i b o → Invariant o.after
ask_keeps I (refused_ask f) = I
ask_keeps I (joins_first j) = j.step.invariant
ask_keeps I (joins_last j) = j.step.invariant

push_keeps : {s : State} {i b : ℕ} {o : Outcome PushAnswer State} → Invariant s → Pushed s i b o → Invariant o.after
push_keeps I (refused_push f) = I
push_keeps I (waits w) = I
push_keeps I (moves g h m e l) = m.step.invariant
push_keeps I (enters m) = m.step.invariant
push_keeps I (exits g m e l) = m.step.invariant

leave_keeps : {s : State} {i b : ℕ} {o : Outcome LeaveAnswer State} → Invariant s → Left s i b o → Invariant o.after
leave_keeps I (refused_leave f) = I
leave_keeps I (leaves_on h m e l) = m.step.invariant

pub reached_invariant : {s : State} → Reached queuing s → Invariant s
reached_invariant (after_layout s z a h) = lays_keeps s z a h
reached_invariant (after_ask s i b r) = let I = reached_invariant r in ask_keeps I (asked I (ask_view s i b))
reached_invariant (after_push s i b r) = let I = reached_invariant r in push_keeps I (pushed I (push_view s i b))
reached_invariant (after_leave s i b r) = let I = reached_invariant r in leave_keeps I (left I (leave_view s i b))
