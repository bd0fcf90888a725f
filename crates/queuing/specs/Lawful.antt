-- The queuing kind keeps every law of a lock kind, and those of a fair one.
use Rattle.std.proofs.Common.{arith, lit<}
use Rattle.std.specs.Prelude.{None, refl}
use Rattle.std.proofs.lemmas.Bool.Decides.{nat_tests}
use Rattle.bank.specs.Laws.{Lawful}
use Rattle.bank.proofs.Itself.{whole_state_decides}
use Rattle.bank.proofs.Layouts.{some_state, layout_rule, layouts_alike, laid_alike}
use Rattle.bank.proofs.Marks.{mark_rule}
use Rattle.queuing.specs.declared.word.Word.TheVariants.{Free}
use Rattle.queuing.specs.Calls.{laid_out}
use Rattle.queuing.specs.State.{nodes_for}
use Rattle.queuing.specs.Effects.{ask_laws, push_laws, leave_laws}
use Rattle.queuing.specs.EveryState.{laid_out_means, refused_alters_nothing, calls_keep_sizes, unfit_is_refused}
use Rattle.queuing.specs.Kind.{queuing}
use Rattle.queuing.specs.Meanings.{bin_meaning, asker_exists, line_meaning}
use Rattle.queuing.specs.Reachable.{reached_invariant}
use Rattle.queuing.specs.Rules.{ask_rule, push_rule, leave_rule, peek_rule, ahead_rule}
use Rattle.queuing.specs.Word.{packed}

pub queuing_lawful : Lawful queuing
queuing_lawful =
    record {
      some_age = lit< tt;
      few_nodes = λ z h. grind (arith, nat_tests);
      some_state = some_state nodes_for (λ z. record { sizes = z }) None;
      layout_rule = layout_rule queuing laid_out (λ s z a. refl);
      laid_out = laid_out_means;
      laid_out_alike = layouts_alike queuing laid_out (λ s z a. refl) (λ s t z a. laid_alike z.sessions (packed (Free a)) s t z);
      effective_decides = whole_state_decides queuing (λ s. refl);
      refused_alters_nothing = refused_alters_nothing;
      calls_keep_sizes = calls_keep_sizes;
      unfit_is_refused = unfit_is_refused;
      reached_is_fit = λ s r. (reached_invariant r).fit;
      bin_meaning = λ s b r. bin_meaning s b (reached_invariant r);
      asker_exists = λ s i b r. asker_exists s i b (reached_invariant r);
      ask_rule = λ s i b r. ask_rule s i b (reached_invariant r);
      push_rule = λ s i b r. push_rule s i b (reached_invariant r);
      leave_rule = λ s i b r. leave_rule s i b (reached_invariant r);
      peek_rule = λ s b r. peek_rule s b (reached_invariant r);
      ahead_rule = λ s i r. ahead_rule s i (reached_invariant r);
      ask_effect = λ s i b r h. (ask_laws s i b (reached_invariant r) h).0;
      push_effect = λ s i b r h. (push_laws s i b (reached_invariant r) h).0;
      leave_effect = λ s i b r h. (leave_laws s i b (reached_invariant r) h).0;
      mark_rule =
          mark_rule
          queuing
          refused_alters_nothing
          (λ s i b r h. (ask_laws s i b (reached_invariant r) h).0)
          (λ s i b r h. (push_laws s i b (reached_invariant r) h).0)
          (λ s i b r h. (leave_laws s i b (reached_invariant r) h).0);
      fair =
          λ _.
          record {
            lines = λ s b r. line_meaning s b (reached_invariant r);
            ask = λ s i b r h. (ask_laws s i b (reached_invariant r) h).1;
            push = λ s i b r h. (push_laws s i b (reached_invariant r) h).1;
            leave = λ s i b r h. (leave_laws s i b (reached_invariant r) h).1;
          };
    }
