-- The ticket kind is lawful.
use Rattle.std.specs.Prelude.{◌≡◌, ℕ, true, is_ok, None, refl}
use Rattle.std.proofs.Common.{sym, ap, ◌∙◌, arith}
use Rattle.std.proofs.lemmas.Bool.{true≢false}
use Rattle.bank.specs.Kind.{joined}
use Rattle.bank.specs.Laws.{Lawful, Fair, AskEffect, PushEffect, LeaveEffect, FairAsk, FairPush, FairLeave}
use Rattle.bank.specs.Outcome.{Outcome}
use Rattle.bank.specs.declared.answers.AskAnswer.{AskAnswer}
use Rattle.bank.specs.declared.answers.LeaveAnswer.{LeaveAnswer}
use Rattle.bank.specs.declared.answers.PushAnswer.{PushAnswer}
use Rattle.bank.proofs.Itself.{whole_state_decides}
use Rattle.bank.proofs.Layouts.{some_state, layout_rule, layouts_alike, laid_alike}
use Rattle.bank.proofs.Marks.{mark_rule}
use Rattle.ticket.specs.Word.{word_of}
use Rattle.ticket.specs.State.{State, nodes_for}
use Rattle.ticket.specs.Calls.{laid_out, asks, pushes, leaves}
use Rattle.ticket.specs.Invariant.{Invariant}
use Rattle.ticket.specs.Views.{ticket, reached_invariant, AskView, ask_view, ask_refused, ask_drawn, PushView, push_view, push_refused, push_waits, push_in, LeaveView, leave_view, leave_refused, leave_out}
use Rattle.ticket.specs.Meanings.{bin_meaning, asker_exists, laid_out_means, line_meaning}
use Rattle.ticket.specs.Rules.{refused_alters_nothing, calls_keep_sizes, unfit_is_refused, ask_rule, push_rule, leave_rule, peek_rule, ahead_rule}
use Rattle.ticket.specs.Effects.{ask_effect, fair_ask, push_waits_effect, fair_push_waits, push_in_effect, fair_push_in, leave_effect, fair_leave}

-- what a granted call does, by the way that it goes
asking :
    (s : State) (i b : ℕ) → Invariant s → joined (asks s i b).answer ≡ true →
    AskEffect ticket s (asks s i b).after i b × FairAsk ticket s (asks s i b).after i b
asking s i b I h = go (ask_view s i b)
  where
    go : AskView s i b → AskEffect ticket s (asks s i b).after i b × FairAsk ticket s (asks s i b).after i b
    go (ask_refused f e) = absurd (true≢false (sym h ∙ ap (λ (o : Outcome AskAnswer State). joined o.answer) e))
    go (ask_drawn U e) =
        let q = ap (λ (o : Outcome AskAnswer State). o.after) e in
        (rw q (ask_effect I U e), rw q (fair_ask I U e))

pushing :
    (s : State) (i b : ℕ) → Invariant s → is_ok (pushes s i b).answer ≡ true →
    PushEffect ticket s (pushes s i b).after i b × FairPush ticket s (pushes s i b).after i b
pushing s i b I h = go (push_view s i b)
  where
    go :
        PushView s i b →
        PushEffect ticket s (pushes s i b).after i b × FairPush ticket s (pushes s i b).after i b
    go (push_refused f e) = absurd (true≢false (sym h ∙ ap (λ (o : Outcome PushAnswer State). is_ok o.answer) e))
    go (push_waits c C t e) =
        let q = ap (λ (o : Outcome PushAnswer State). o.after) e in
        (rw q (push_waits_effect I C t e), rw q (fair_push_waits I C t e))
    go (push_in c C n t e) =
        let q = ap (λ (o : Outcome PushAnswer State). o.after) e in
        (rw q (push_in_effect I C n t e), rw q (fair_push_in I C n t e))

leaving :
    (s : State) (i b : ℕ) → Invariant s → is_ok (leaves s i b).answer ≡ true →
    LeaveEffect ticket s (leaves s i b).after i b × FairLeave ticket s (leaves s i b).after i b
leaving s i b I h = go (leave_view s i b)
  where
    go :
        LeaveView s i b →
        LeaveEffect ticket s (leaves s i b).after i b × FairLeave ticket s (leaves s i b).after i b
    go (leave_refused f e) = absurd (true≢false (sym h ∙ ap (λ (o : Outcome LeaveAnswer State). is_ok o.answer) e))
    go (leave_out c C n e) =
        let q = ap (λ (o : Outcome LeaveAnswer State). o.after) e in
        (rw q (leave_effect I C n e), rw q (fair_leave I C n e))

ticket_fair : Fair ticket
ticket_fair =
    record {
      lines = λ s b r h. line_meaning s b (reached_invariant r) h;
      ask = λ s i b r h. (asking s i b (reached_invariant r) h).1;
      push = λ s i b r h. (pushing s i b (reached_invariant r) h).1;
      leave = λ s i b r h. (leaving s i b (reached_invariant r) h).1;
    }

pub ticket_lawful : Lawful ticket
ticket_lawful =
    record {
      some_age = omega arith;
      few_nodes = λ z h. omega arith;
      some_state = some_state nodes_for (λ z. record { sizes = z }) None;
      layout_rule = layout_rule ticket laid_out (λ s z a. refl);
      laid_out = laid_out_means;
      laid_out_alike =
          layouts_alike ticket laid_out (λ s z a. refl) (λ s t z a. laid_alike 0 (word_of a a) s t z);
      effective_decides = whole_state_decides ticket (λ s. refl);
      refused_alters_nothing = refused_alters_nothing;
      calls_keep_sizes = calls_keep_sizes;
      unfit_is_refused = unfit_is_refused;
      reached_is_fit = λ s r. (reached_invariant r).fit;
      bin_meaning = λ s b r h. bin_meaning s b (reached_invariant r) h;
      asker_exists = λ s i b r. asker_exists s i b (reached_invariant r);
      ask_rule = λ s i b r. ask_rule s i b (reached_invariant r);
      push_rule = λ s i b r. push_rule s i b (reached_invariant r);
      leave_rule = λ s i b r. leave_rule s i b (reached_invariant r);
      peek_rule = λ s b r. peek_rule s b (reached_invariant r);
      ahead_rule = λ s i r. ahead_rule s i (reached_invariant r);
      ask_effect = λ s i b r h. (asking s i b (reached_invariant r) h).0;
      push_effect = λ s i b r h. (pushing s i b (reached_invariant r) h).0;
      leave_effect = λ s i b r h. (leaving s i b (reached_invariant r) h).0;
      mark_rule =
          mark_rule
          ticket
          refused_alters_nothing
          (λ s i b r h. (asking s i b (reached_invariant r) h).0)
          (λ s i b r h. (pushing s i b (reached_invariant r) h).0)
          (λ s i b r h. (leaving s i b (reached_invariant r) h).0);
      fair = λ f. ticket_fair;
    }
