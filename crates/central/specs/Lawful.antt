-- The central kind keeps every law of a lock kind.
use Rattle.std.proofs.Common.{arith, lit<}
use Rattle.std.specs.Prelude.{None, refl}
use Rattle.std.proofs.lemmas.Bool.{false≢true}
use Rattle.bank.specs.Laws.{Lawful}
use Rattle.bank.proofs.Itself.{whole_state_decides}
use Rattle.bank.proofs.Layouts.{some_state, layout_rule, layouts_alike, laid_alike}
use Rattle.bank.proofs.Marks.{mark_rule}
use Rattle.central.specs.Calls.{laid_out}
use Rattle.central.specs.State.{nodes_for}
use Rattle.central.specs.EveryState.{laid_out_means, refused_alters_nothing, calls_keep_sizes, unfit_is_refused}
use Rattle.central.specs.Effects.{ask_effect, push_effect, leave_effect}
use Rattle.central.specs.Meanings.{bin_meaning, asker_exists}
use Rattle.central.specs.Reachable.{central, reached_invariant}
use Rattle.central.specs.Rules.{ask_rule, push_rule, leave_rule, peek_rule, ahead_rule}

pub central_lawful : Lawful central
central_lawful =
    record {
      some_age = lit< tt;
      few_nodes = λ z h. omega arith;
      some_state = some_state nodes_for (λ z. record { sizes = z }) None;
      layout_rule = layout_rule central laid_out (λ s z a. refl);
      laid_out = laid_out_means;
      laid_out_alike = layouts_alike central laid_out (λ s z a. refl) (λ s t z a. laid_alike 0 a s t z);
      effective_decides = whole_state_decides central (λ s. refl);
      refused_alters_nothing = refused_alters_nothing;
      calls_keep_sizes = calls_keep_sizes;
      unfit_is_refused = unfit_is_refused;
      reached_is_fit = λ s r. (reached_invariant r).fit;
      bin_meaning = λ s b r. bin_meaning s b (reached_invariant r);
      asker_exists = λ s i b r. asker_exists s i b (reached_invariant r);
      ask_rule = λ s i b r. ask_rule s i b (reached_invariant r);
      push_rule = λ s i b r. push_rule s i b (reached_invariant r);
      leave_rule = λ s i b r. leave_rule s i b (reached_invariant r);
      peek_rule = λ s b r. peek_rule s b (reached_invariant r);
      ahead_rule = λ s i r. ahead_rule s i (reached_invariant r);
      ask_effect = λ s i b r. ask_effect s i b (reached_invariant r);
      push_effect = λ s i b r _. push_effect s i b (reached_invariant r);
      leave_effect = λ s i b r. leave_effect s i b (reached_invariant r);
      mark_rule =
          mark_rule
          central
          refused_alters_nothing
          (λ s i b r. ask_effect s i b (reached_invariant r))
          (λ s i b r _. push_effect s i b (reached_invariant r))
          (λ s i b r. leave_effect s i b (reached_invariant r));
      fair = λ f. absurd (false≢true f);
    }
