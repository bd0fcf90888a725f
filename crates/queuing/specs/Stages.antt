-- The stages: only one has entered, and none from the entry on remembers a node.
use Rattle.std.specs.Prelude.{◌≡◌, true, false, None, refl}
use Rattle.std.proofs.Common.{ap}
use Rattle.std.proofs.lemmas.Bool.{false≢true}
use Rattle.queuing.specs.declared.Stage.{Stage}
use Rattle.queuing.specs.declared.Stage.TheVariants.{Link, See, Close, Inside, Try, Open, Await, Hand}
use Rattle.queuing.specs.State.{entered, has_left, remembered}

pub only_inside : (g : Stage) → entered g ≡ true → g ≡ Inside
only_inside (Link p) e = absurd (false≢true e)
only_inside (See p) e = absurd (false≢true e)
only_inside Close e = absurd (false≢true e)
only_inside Inside e = refl
only_inside Try e = absurd (false≢true e)
only_inside Open e = absurd (false≢true e)
only_inside Await e = absurd (false≢true e)
only_inside Hand e = absurd (false≢true e)

pub entered_forgets : (g : Stage) → entered g ≡ true → remembered g ≡ None
entered_forgets g e = ap remembered (only_inside g e)

pub entered_stays : (g : Stage) → entered g ≡ true → has_left g ≡ false
entered_stays g e = ap has_left (only_inside g e)

pub left_forgets : (g : Stage) → has_left g ≡ true → remembered g ≡ None
left_forgets (Link p) e = absurd (false≢true e)
left_forgets (See p) e = absurd (false≢true e)
left_forgets Close e = refl
left_forgets Inside e = refl
left_forgets Try e = refl
left_forgets Open e = refl
left_forgets Await e = refl
left_forgets Hand e = refl
