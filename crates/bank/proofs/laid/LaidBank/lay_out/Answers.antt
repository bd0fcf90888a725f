-- A granted layout is where reached states begin, and leaves what the law says; a refused one is refused for a size or the age.
use Rattle.std.proofs.Common.{rules, ◌≡◌, true, is_ok, sym, ap, ◌∙◌, subst}
use Rattle.bank.specs.Kind.{Reached, after_layout}
use Rattle.bank.specs.KindOf.{kind_of}
use Rattle.bank.specs.Laws.{LaidOut}
use Rattle.bank.specs.Locks.{locks}
use Rattle.bank.proofs.Refused.{new_bank_refused}
use Rattle.bank.proofs.laid.LaidBank.lay_out.Goals as goal

pub returns-in_err-layout-clause-refused : goal.returns-in_err-layout-clause-refused
returns-in_err-layout-clause-refused g c =
    let bank = c.default-bank.result in
    let memory = c.in_ok-memory.memory in
    let z = c.args.sizes in
    let a = c.args.start in
    let rule = g.met.B.Bank.lawful.layout_rule (locks bank memory) z a in
    let told = sym c.lengths.ensures ∙ c.in_ok-lengths.was in
    let answer = sym c.layout.ensures.answer ∙ c.in_err-layout.was in
    let refused = new_bank_refused g.B.Bank bank memory _ z a c.in_ok-lengths.field-0 c.in_err-layout.field-0.0 rule told c.in_ok-memory.ensures answer in
    search rules

pub returns-clause-laid : goal.returns-clause-laid
returns-clause-laid g c =
    let k = kind_of g.B.Bank in
    let s = locks c.default-bank.result c.in_ok-memory.memory in
    let z = c.args.sizes in
    let a = c.args.start in
    let ok : is_ok (k.lays s z a).answer ≡ true = ap is_ok (sym c.layout.ensures.answer ∙ c.in_ok-layout.was) in
    let after = sym c.layout.ensures.after in
    (subst (Reached k) after (after_layout s z a ok), subst (λ t. LaidOut k t z a) after (g.met.B.Bank.lawful.laid_out s z a ok))
