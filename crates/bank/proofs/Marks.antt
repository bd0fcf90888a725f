-- A mark stays elsewhere, in refusals and in waits, for any kind whose calls do what the laws say.
use Rattle.std.proofs.Common.{◌≡◌, ℕ, ◌<◌, true, is_ok, is_err, Ok, Err, Result, refl, ap}
use Rattle.bank.specs.Kind.{Kind, Reached, joined, bins}
use Rattle.bank.specs.Laws.{RefusedAltersNothing, AskEffect, PushEffect, LeaveEffect, MarkRule}
use Rattle.bank.specs.declared.answers.AskAnswer.{AskAnswer}
use Rattle.bank.specs.declared.answers.AskAnswer.TheVariants.{In, NotYet}
use Rattle.bank.specs.declared.answers.LeaveAnswer.{LeaveAnswer}
use Rattle.bank.specs.declared.answers.PushAnswer.{PushAnswer}
use Rattle.bank.specs.declared.refusals.Fault.{Fault}

module _
    {S : Type 0} (k : Kind S) (refusals : (s : S) (i b : ℕ) → RefusedAltersNothing k s i b)
    (ask :
    (s : S) (i b : ℕ) → Reached k s → joined (k.asks s i b).answer ≡ true → AskEffect k s (k.asks s i b).after i b)
    (push :
    (s : S) (i b : ℕ) → Reached k s → is_ok (k.pushes s i b).answer ≡ true → PushEffect k s (k.pushes s i b).after i b)
    (leave :
    (s : S) (i b : ℕ) → Reached k s → is_ok (k.leaves s i b).answer ≡ true → LeaveEffect k s (k.leaves s i b).after i b)
  where
    pub mark_rule : (s : S) (i b c : ℕ) → Reached k s → c < bins k s → MarkRule k s i b c
    mark_rule s i b c r h =
        record {
          asks_elsewhere = λ n. asked n (k.asks s i b).answer refl;
          asks_refused = λ e. kept ((refusals s i b).asks e);
          pushes_elsewhere = λ n. pushed n (k.pushes s i b).answer refl;
          pushes_refused = λ e. kept ((refusals s i b).pushes e);
          pushes_waits = λ e. ((push s i b r (ap is_ok e)).waits_keeps_all e c).mark;
          leaves_elsewhere = λ n. left n (k.leaves s i b).answer refl;
          leaves_refused = λ e. kept ((refusals s i b).leaves e);
        }
      where
        kept : {t : S} → t ≡ s → k.mark t c ≡ k.mark s c
        kept e = ap (λ (t : S). k.mark t c) e

        asked :
            (c ≡ b → ⊥) → (a : Result AskAnswer Fault) → (k.asks s i b).answer ≡ a →
            k.mark (k.asks s i b).after c ≡ k.mark s c
        asked n (Ok In) e = ((ask s i b r (ap joined e)).other_bins_keep_all c h n).mark
        asked n (Ok NotYet) e = ((ask s i b r (ap joined e)).other_bins_keep_all c h n).mark
        asked n (Err f) e = kept ((refusals s i b).asks (ap is_err e))

        pushed :
            (c ≡ b → ⊥) → (a : Result PushAnswer Fault) → (k.pushes s i b).answer ≡ a →
            k.mark (k.pushes s i b).after c ≡ k.mark s c
        pushed n (Ok x) e = ((push s i b r (ap is_ok e)).other_bins_keep_all c h n).mark
        pushed n (Err f) e = kept ((refusals s i b).pushes (ap is_err e))

        left :
            (c ≡ b → ⊥) → (a : Result LeaveAnswer Fault) → (k.leaves s i b).answer ≡ a →
            k.mark (k.leaves s i b).after c ≡ k.mark s c
        left n (Ok x) e = ((leave s i b r (ap is_ok e)).other_bins_keep_all c h n).mark
        left n (Err f) e = kept ((refusals s i b).leaves (ap is_err e))
