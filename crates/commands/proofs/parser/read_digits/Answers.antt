-- A digit that has no place in the value ends the reading: there is none to the end of the text.
use Rattle.std.proofs.Common.{ℕ, Some, None, Option, get_or, sym, refl, ap, ◌∙◌}
use Rattle.std.proofs.lemmas.List.Folds.{fold_stuck}
use Rattle.commands.specs.Numbers.{digit_of, with_digit}
use Rattle.commands.proofs.parser.read_digits.Goals as goal

pub returns-in_err-value : goal.returns-in_err-value
returns-in_err-value c =
    let text = c.args.text.now in
    let at = c.loop-byte.byte-index in
    let more : Option ℕ → ℕ → Option ℕ = λ value byte. with_digit c.args.radix value (digit_of byte) in
    let ends = ap (λ value. more value (get_or text at 0)) (sym c.loop-byte.invariant) ∙ sym c.in_err-value.ensures in
    c.from_residual.ensures ∙ fold_stuck more None (λ byte. refl) (Some 0) text at 0 c.loop-byte-test.true ends
