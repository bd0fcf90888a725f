-- The pieces of a text between spaces are the line's words.
use Rattle.std.proofs.Common.{rules, ◌≡◌, ℕ, List, Some, None, Ok, vec_items, Option, sym, ap, ◌∙◌, subst, lit<}
use Rattle.std.proofs.lemmas.Iterator.Consumers.{map_from_collect}
use Rattle.std.proofs.lemmas.Iterator.Splits.{YieldsList-from_str_split}
use Rattle.std.specs.Option.{ok_or}
use Rattle.commands.specs.Syntax.{Texts, ReadAs, texts}
use Rattle.commands.specs.declared.replies.Declined.TheVariants.{Unreadable}
use Rattle.commands.specs.declared.syntax.Command.{Command}
use Rattle.console.specs.Lines.{words_of, LineReads}
use Rattle.console.proofs.read_command.Goals as goal

line_reads : (line : List ℕ) (ws : Texts) (o : Option Command) → ws ≡ words_of line → ReadAs ws o → LineReads line (ok_or o Unreadable)
line_reads line ws (Some command) words read = subst (λ vs. ReadAs vs (Some command)) words read
line_reads line ws None words read = λ utf8. subst (λ vs. ReadAs vs None) words read

pub returns : goal.returns
returns c =
    let line = c.args.line.now in
    let text = c.in_ok-text.text.now in
    let same : text ≡ line = search rules in
    let listed : c.deref.result.now ≡ vec_items c.in_ok-words.words = search rules in
    let split = YieldsList-from_str_split 32 text (lit< tt) c.split.ensures.text c.split.ensures.has_more c.split.ensures.pattern in
    let pieces : texts (vec_items c.in_ok-words.words) ≡ words_of text = map_from_collect {E = Unit {0}} (Ok c.in_ok-words.words) c.in_ok-words.ensures.ran split in
    let read = line_reads line _ _ (ap texts listed ∙ pieces ∙ ap words_of same) c.parse.ensures in
    subst (LineReads line) (sym c.ok_or.ensures.value) read
