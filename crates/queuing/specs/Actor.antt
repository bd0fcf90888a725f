-- What an action does, told of the session that acts.
use Rattle.std.specs.Prelude.{◌≡◌, ℕ, Result}
use Rattle.bank.specs.Locks.{locks}
use Rattle.bank.specs.Outcome.{Outcome}
use Rattle.bank.specs.declared.refusals.Fault.{Fault}
use Rattle.queuing.specs.declared.actions.Actor.{Actor}
use Rattle.queuing.specs.State.{State}

abbrev pub state_of : Actor → State
state_of a = locks a.bank a.memory.now

-- the actor, the same before and after, turns its state into what f says of its session and bin
pub record Writes (f : State → ℕ → ℕ → State) (old new : Actor) : Type 0 where
  pub state : state_of new ≡ f (state_of old) old.session old.bin
  pub same_bank : new.bank ≡ old.bank
  pub same_memory : new.memory.ghost_name ≡ old.memory.ghost_name
  pub same_session : new.session ≡ old.session
  pub same_bin : new.bin ≡ old.bin

-- the actor does an action, which answers r
pub record Does {A : Type 0} (act : State → ℕ → ℕ → Outcome A State) (old new : Actor) (r : Result A Fault) : Type 0 where
  pub answer : r ≡ (act (state_of old) old.session old.bin).answer
  pub after : Writes (λ s i b. (act s i b).after) old new
