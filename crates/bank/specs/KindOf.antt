-- The kind that a bank is, by its ghost members.
use Rattle.bank.specs.Locks.{Locks, fitting, with_bank}
use Rattle.bank.specs.Kind.{Kind, kind}
use Rattle.bank.specs.declared.Bank.{Ghosts}

abbrev pub kind_of : {B R : Type 0} → Ghosts B R → Kind (Locks B R)
kind_of g =
    kind
    (λ s. g.extent s.bank)
    g.nodes_for
    (fitting g.nodes_for)
    (with_bank g.effective)
    g.modulus
    g.askers
    g.leaving
    g.inside
    g.age
    g.calm
    g.mark
    g.calm_of
    g.age_of
    g.fair
    g.line
    g.needed
    g.entry_pushes
    g.exit_pushes
    g.lays
    g.asks
    g.pushes
    g.leaves
    g.peeks
    g.counts
