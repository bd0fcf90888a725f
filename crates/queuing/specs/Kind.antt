-- The queuing kind as a value.
use Rattle.std.specs.Prelude.{true}
use Rattle.bank.specs.Claims.{askers}
use Rattle.bank.specs.Kind.{Kind, kind}
use Rattle.bank.specs.Locks.{fitting, with_bank}
use Rattle.queuing.specs.Calls as calls
use Rattle.queuing.specs.Meaning as meaning
use Rattle.queuing.specs.State.{State, nodes_for}
use Rattle.queuing.specs.Word as words

abbrev pub queuing : Kind State
queuing =
    kind
    (λ s. s.bank.sizes)
    nodes_for
    (fitting nodes_for)
    (with_bank (λ k. k))
    words.versions
    askers
    meaning.leaving
    meaning.inside
    meaning.age
    meaning.calm
    meaning.mark
    words.calm_of
    words.age_of
    true
    meaning.line
    meaning.needed
    3
    4
    calls.lays
    calls.asks
    calls.pushes
    calls.leaves
    calls.peeks
    calls.counts
