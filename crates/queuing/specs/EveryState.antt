-- The laws at any state: what layout leaves, and what refusals and calls leave as it was.
use Rattle.std.specs.Prelude.{◌≡◌, ℕ, true, false, is_ok, is_err, refl}
use Rattle.std.proofs.Common.{ap}
use Rattle.std.proofs.lemmas.List.{length-set}
use Rattle.std.proofs.lemmas.Bool.{false≢true}
use Rattle.bank.specs.Claims.{passes, at}
use Rattle.bank.specs.Laws.{LaidOut, RefusedAltersNothing, Kept, CallsKeepSizes, UnfitIsRefused}
use Rattle.bank.specs.Locks.{fitting}
use Rattle.bank.specs.Outcome.{Outcome}
use Rattle.bank.specs.declared.answers.AskAnswer.{AskAnswer}
use Rattle.bank.specs.declared.answers.LeaveAnswer.{LeaveAnswer}
use Rattle.bank.specs.declared.answers.PushAnswer.{PushAnswer}
use Rattle.bank.specs.declared.memory.Sizes.{Sizes}
use Rattle.bank.proofs.Admission.{session_unfit, bin_unfit, own_unfit}
use Rattle.bank.proofs.Itself.{kept_self}
use Rattle.bank.proofs.Layouts.{layout_granted, layout_refused}
use Rattle.queuing.specs.Calls.{laid_out, lays, asks, pushes, leaves}
use Rattle.queuing.specs.State.{State, sessions_of, nodes_for}
use Rattle.queuing.specs.Invariant.{line_is}
use Rattle.queuing.specs.Kind.{queuing}
use Rattle.queuing.specs.Meanings.{empty_age}
use Rattle.queuing.specs.Reachable.{laid_fit, laid_record, laid_bin, laid_invariant}
use Rattle.queuing.specs.Views.{AskView, ask_view, ask_refused, ask_enters, ask_lines_up, PushView, push_view, push_refused, links, waits_to_see, sees, closes, tries, frees, opens, waits_for_next, awaits, hands, LeaveView, leave_view, leave_refused, looks_alone, looks_back}

-- LAYOUT
pub laid_out_means :
    (s : State) (z : Sizes) (a : ℕ) → is_ok (lays s z a).answer ≡ true → LaidOut queuing (lays s z a).after z a
laid_out_means s z a h =
    let g = layout_granted queuing laid_out (λ s z a. refl) s z a h in
    let I = laid_invariant s z a g.0 g.1 in
    rw
    g.2
    (record {
      sizes = refl;
      fit = laid_fit s z a g.0;
      no_askers = λ b i k. ap (passes (at b)) (laid_record s z a g.0 i);
      starting_age = λ b k. empty_age I (laid_bin s z a g.0 g.1 b k);
      empty_line = λ b k. line_is I (laid_bin s z a g.0 g.1 b k);
    })

-- REFUSALS, and the sizes
pub refused_alters_nothing : (s : State) (i b : ℕ) → RefusedAltersNothing queuing s i b
refused_alters_nothing s i b =
    record {
      lays = layout_refused queuing laid_out (λ s z a. refl) s;
      asks = ask (asks s i b) (ask_view s i b);
      pushes = push (pushes s i b) (push_view s i b);
      leaves = leave (leaves s i b) (leave_view s i b);
    }
  where
    ask : (o : Outcome AskAnswer State) → AskView s i b o → is_err o.answer ≡ true → o.after ≡ s
    ask o (ask_refused f) h = refl
    ask o (ask_enters v q e) h = absurd (false≢true h)
    ask o (ask_lines_up w p q e n) h = absurd (false≢true h)

    push : (o : Outcome PushAnswer State) → PushView s i b o → is_err o.answer ≡ true → o.after ≡ s
    push o (push_refused f) h = refl
    push o (links p a l) h = absurd (false≢true h)
    push o (waits_to_see p a e) h = refl
    push o (sees p v a e) h = absurd (false≢true h)
    push o (closes a) h = absurd (false≢true h)
    push o (tries w a e n) h = absurd (false≢true h)
    push o (frees w v a e k n) h = absurd (false≢true h)
    push o (opens v a e) h = absurd (false≢true h)
    push o (waits_for_next a e) h = refl
    push o (awaits q a e) h = absurd (false≢true h)
    push o (hands q v a e f) h = absurd (false≢true h)

    leave : (o : Outcome LeaveAnswer State) → LeaveView s i b o → is_err o.answer ≡ true → o.after ≡ s
    leave o (leave_refused f) h = refl
    leave o (looks_alone a e) h = absurd (false≢true h)
    leave o (looks_back q a e) h = absurd (false≢true h)

pub calls_keep_sizes : (s : State) (i b : ℕ) → CallsKeepSizes queuing s i b
calls_keep_sizes s i b =
    record {
      asks = ask (asks s i b) (ask_view s i b);
      pushes = push (pushes s i b) (push_view s i b);
      leaves = leave (leaves s i b) (leave_view s i b);
    }
  where
    ask : (o : Outcome AskAnswer State) → AskView s i b o → Kept queuing s o.after
    ask o (ask_refused f) = kept_self queuing s
    ask o (ask_enters v q e) = record { sizes = refl; fit = simp length-set }
    ask o (ask_lines_up w p q e n) = record { sizes = refl; fit = simp length-set }

    push : (o : Outcome PushAnswer State) → PushView s i b o → Kept queuing s o.after
    push o (push_refused f) = kept_self queuing s
    push o (links p a l) = record { sizes = refl; fit = simp length-set }
    push o (waits_to_see p a e) = kept_self queuing s
    push o (sees p v a e) = record { sizes = refl; fit = simp length-set }
    push o (closes a) = record { sizes = refl; fit = simp length-set }
    push o (tries w a e n) = record { sizes = refl; fit = simp length-set }
    push o (frees w v a e k n) = record { sizes = refl; fit = simp length-set }
    push o (opens v a e) = record { sizes = refl; fit = simp length-set }
    push o (waits_for_next a e) = kept_self queuing s
    push o (awaits q a e) = record { sizes = refl; fit = simp length-set }
    push o (hands q v a e f) = record { sizes = refl; fit = simp length-set }

    leave : (o : Outcome LeaveAnswer State) → LeaveView s i b o → Kept queuing s o.after
    leave o (leave_refused f) = kept_self queuing s
    leave o (looks_alone a e) = record { sizes = refl; fit = simp length-set }
    leave o (looks_back q a e) = record { sizes = refl; fit = simp length-set }

pub unfit_is_refused :
    (s : State) (i b : ℕ) → fitting nodes_for s s.bank.sizes ≡ false → UnfitIsRefused queuing s i b
unfit_is_refused s i b e =
    let own = own_unfit (sessions_of s) s.bank.sizes s.memory i b e in
    record {
      asks = rw own;
      pushes = rw own;
      leaves = rw own;
      peeks = rw (bin_unfit (sessions_of s) s.bank.sizes s.memory b e);
      counts = rw (session_unfit (sessions_of s) s.bank.sizes s.memory i e);
    }
