-- What a refused layout shows.
use Rattle.std.proofs.Common.{◌≡◌, ℕ, Bool, true, false, cond, is_ok, Ok, Err, Result, sym, refl, ap, ◌∙◌, ⊎_elim}
use Rattle.std.proofs.lemmas.Bool.{true≢false, cases_lt}
use Rattle.bank.specs.Calls.{lengths_told}
use Rattle.bank.specs.Kind.{Kind}
use Rattle.bank.specs.KindOf.{kind_of}
use Rattle.bank.specs.LaidBank.{Refuses}
use Rattle.bank.specs.Laws.{LayoutRule}
use Rattle.bank.specs.Locks.{locks}
use Rattle.bank.specs.Memory.{lent, blank, within_limits, has_lengths}
use Rattle.bank.specs.Refusals.{bad_size}
use Rattle.bank.specs.declared.Bank.{Ghosts}
use Rattle.bank.specs.declared.memory.Lengths.{Lengths}
use Rattle.bank.specs.declared.memory.LockMemory.{LockMemory}
use Rattle.bank.specs.declared.memory.Sizes.{Sizes}
use Rattle.bank.specs.declared.refusals.Fault.{Fault}
use Rattle.bank.proofs.Layouts.{blank_fits}

same_fault : {A : Type 0} (r : Result A Fault) (f g : Fault) → r ≡ Err f → r ≡ Err g → f ≡ g
same_fault r f g p q = cc

same_lengths : (told l : Lengths) (t : Bool) → t ≡ true → cond t (Ok told) (Err bad_size) ≡ Ok l → l ≡ told
same_lengths told l true h e = cc
same_lengths told l false h e = absurd (true≢false (sym h))

-- layout is refused by 1 at T0 and by nothing else
pub layout_refusal :
    {S : Type 0} (k : Kind S) (s : S) (z : Sizes) (a : ℕ) (f : Fault) → LayoutRule k s z a →
    (k.lays s z a).answer ≡ Err f → f ≡ bad_size
layout_refusal k s z a f rule e = go (k.fits s z) refl
  where
    go : (t : Bool) → k.fits s z ≡ t → f ≡ bad_size
    go false q = same_fault (k.lays s z a).answer f bad_size e (rule.wrong_length q)
    go true q =
        ⊎_elim
        (λ l. absurd (true≢false (sym (rule.granted q l) ∙ ap is_ok e)))
        (λ l. same_fault (k.lays s z a).answer f bad_size e (rule.wrong_age l))
        (cases_lt a k.modulus)

-- on new memory of the lengths told, only for the age
pub new_bank_refused :
    {B R : Type 0} (g : Ghosts B R) (bank : B) (memory : LockMemory R) (r : R) (z : Sizes) (a : ℕ) (l : Lengths) (f : Fault) →
    LayoutRule (kind_of g) (locks bank memory) z a → lengths_told (kind_of g) z ≡ Ok l → lent memory ≡ blank l r →
    ((kind_of g).lays (locks bank memory) z a).answer ≡ Err f → Refuses (kind_of g) z a f
new_bank_refused {B} {R} g bank memory r z a l f rule told new e = (
  layout_refusal (kind_of g) (locks bank memory) z a f rule e,
  λ w h. absurd (true≢false (sym (rule.granted (fits w) h) ∙ ap is_ok e)),
)
  where
    fits : within_limits z ≡ true → has_lengths (g.nodes_for z) z (lent memory) ≡ true
    fits w =
        let lengths : Lengths = record { words = z.bins; records = z.sessions; nodes = g.nodes_for z } in
        let same : l ≡ lengths = same_lengths lengths l (within_limits z) w told in
        ap (has_lengths (g.nodes_for z) z) (new ∙ ap (λ n. blank n r) same) ∙ blank_fits (g.nodes_for z) r z w
