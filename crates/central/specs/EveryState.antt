-- The laws at any state: what layout leaves, and what refusals and calls leave as it was.
use Rattle.std.specs.Prelude.{◌≡◌, ℕ, true, false, is_ok, is_err, refl}
use Rattle.std.proofs.Common.{ap, ◌∙◌}
use Rattle.std.proofs.lemmas.List.{length-set}
use Rattle.std.proofs.lemmas.Bool.{false≢true}
use Rattle.bank.specs.Claims.{passes, at}
use Rattle.bank.specs.Laws.{LaidOut, RefusedAltersNothing, Kept, CallsKeepSizes, UnfitIsRefused}
use Rattle.bank.specs.Locks.{fitting}
use Rattle.bank.specs.Outcome.{Outcome}
use Rattle.bank.specs.declared.answers.AskAnswer.{AskAnswer}
use Rattle.bank.specs.declared.answers.LeaveAnswer.{LeaveAnswer}
use Rattle.bank.specs.declared.answers.PushAnswer.{PushAnswer}
use Rattle.bank.specs.declared.memory.Sizes.{Sizes}
use Rattle.bank.proofs.Admission.{session_unfit, bin_unfit, own_unfit}
use Rattle.bank.proofs.Itself.{kept_self}
use Rattle.bank.proofs.Layouts.{layout_granted, layout_refused}
use Rattle.central.specs.Calls.{laid_out, lays, asks, pushes, leaves}
use Rattle.central.specs.State.{State, nodes_for}
use Rattle.central.specs.Word.{age_of}
use Rattle.central.specs.Invariant.{laid_record, laid_word, laid_fit}
use Rattle.central.specs.Meanings.{age_unlocked}
use Rattle.central.specs.Reachable.{central}
use Rattle.central.specs.Views.{AskView, ask_view, ask_refused, ask_joins, PushView, push_view, push_refused, push_waits, push_moves, push_enters, LeaveView, leave_view, leave_refused, leave_exits}

-- LAYOUT
pub laid_out_means :
    (s : State) (z : Sizes) (a : ℕ) → is_ok (lays s z a).answer ≡ true → LaidOut central (lays s z a).after z a
laid_out_means s z a h =
    let g = layout_granted central laid_out (λ s z a. refl) s z a h in
    rw
    g.2
    (record {
      sizes = refl;
      fit = laid_fit s z a g.0;
      no_askers = λ b i k. ap (passes (at b)) (laid_record s z a i);
      starting_age = λ b k. ap age_of (laid_word s z a b g.0 k) ∙ age_unlocked a g.1;
      empty_line = λ b k. refl;
    })

-- REFUSALS, and the sizes
pub refused_alters_nothing : (s : State) (i b : ℕ) → RefusedAltersNothing central s i b
refused_alters_nothing s i b =
    record {
      lays = layout_refused central laid_out (λ s z a. refl) s;
      asks = ask (asks s i b) (ask_view s i b);
      pushes = push (pushes s i b) (push_view s i b);
      leaves = leave (leaves s i b) (leave_view s i b);
    }
  where
    ask : (o : Outcome AskAnswer State) → AskView s i b o → is_err o.answer ≡ true → o.after ≡ s
    ask o (ask_refused f) h = refl
    ask o (ask_joins q) h = absurd (false≢true h)

    push : (o : Outcome PushAnswer State) → PushView s i b o → is_err o.answer ≡ true → o.after ≡ s
    push o (push_refused f) h = refl
    push o push_waits h = refl
    push o (push_moves c g q eb eo es ei) h = absurd (false≢true h)
    push o (push_enters c q eb eo l) h = absurd (false≢true h)

    leave : (o : Outcome LeaveAnswer State) → LeaveView s i b o → is_err o.answer ≡ true → o.after ≡ s
    leave o (leave_refused f) h = refl
    leave o (leave_exits c q eb ei) h = absurd (false≢true h)

pub calls_keep_sizes : (s : State) (i b : ℕ) → CallsKeepSizes central s i b
calls_keep_sizes s i b =
    record {
      asks = ask (asks s i b) (ask_view s i b);
      pushes = push (pushes s i b) (push_view s i b);
      leaves = leave (leaves s i b) (leave_view s i b);
    }
  where
    ask : (o : Outcome AskAnswer State) → AskView s i b o → Kept central s o.after
    ask o (ask_refused f) = kept_self central s
    ask o (ask_joins q) = record { sizes = refl; fit = simp length-set }

    push : (o : Outcome PushAnswer State) → PushView s i b o → Kept central s o.after
    push o (push_refused f) = kept_self central s
    push o push_waits = kept_self central s
    push o (push_moves c g q eb eo es ei) = record { sizes = refl; fit = simp length-set }
    push o (push_enters c q eb eo l) = record { sizes = refl; fit = simp length-set }

    leave : (o : Outcome LeaveAnswer State) → LeaveView s i b o → Kept central s o.after
    leave o (leave_refused f) = kept_self central s
    leave o (leave_exits c q eb ei) = record { sizes = refl; fit = simp length-set }

pub unfit_is_refused :
    (s : State) (i b : ℕ) → fitting nodes_for s s.bank.sizes ≡ false → UnfitIsRefused central s i b
unfit_is_refused s i b e =
    let own = own_unfit 0 s.bank.sizes s.memory i b e in
    record {
      asks = rw own;
      pushes = rw own;
      leaves = rw own;
      peeks = rw (bin_unfit 0 s.bank.sizes s.memory b e);
      counts = rw (session_unfit 0 s.bank.sizes s.memory i e);
    }
