-- What is left of the count from here on is the whole of it.
use Rattle.std.proofs.Common.{◌≡◌, ◌-◌, ◌<◌}
use Rattle.bank.specs.Locks.{locks}
use Rattle.queuing.specs.Calls.{counted}
use Rattle.queuing.proofs.Queuing.count_ahead.Given as goal

abbrev pub invariant-loop-count : goal.invariant-loop-count
invariant-loop-count l =
    let n = l.self.sizes.sessions in
    let s = locks l.self l.memory in
    (l.at < n) × (counted (n - l.count) s l.session l.at l.count ≡ counted n s l.session l.session 0)
