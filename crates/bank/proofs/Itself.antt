-- What holds from a state to itself, and so of a kind whose effective state is the whole state.
use Rattle.std.proofs.Common.{◌≡◌, ℕ, sym, refl, ◌∙◌, subst}
use Rattle.bank.specs.Kind.{Kind, Same}
use Rattle.bank.specs.Laws.{Kept, Alike}

module _ {S : Type 0} (k : Kind S) where
  pub same_self : (s : S) (c : ℕ) → Same k s s c
  same_self s c =
      record { askers = λ j. refl; leaving = λ j. refl; inside = refl; age = refl; calm = refl; mark = refl; line = refl }

  pub kept_self : (s : S) → Kept k s s
  kept_self s = record { sizes = refl; fit = refl }

  alike_self : (s : S) (i b : ℕ) → Alike k s s i b
  alike_self s i b =
      record {
        kept = kept_self s;
        same = same_self s b;
        needed = refl;
        asks_answer = refl;
        asks_after = refl;
        pushes_answer = refl;
        pushes_after = refl;
        leaves_answer = refl;
        leaves_after = refl;
        peeks = refl;
        counts = refl;
      }

  pub whole_state_decides :
      ((s : S) → k.effective s ≡ s) → (s t : S) (i b : ℕ) → k.effective t ≡ k.effective s → Alike k s t i b
  whole_state_decides whole s t i b e =
      subst (λ (x : S). Alike k s x i b) (sym (whole s) ∙ sym e ∙ whole t) (alike_self s i b)
