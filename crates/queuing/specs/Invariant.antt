-- What holds at every reached state: a line stands at each bin, and its lock word says so.
use Rattle.std.specs.Prelude.{◌≡◌, ℕ, ◌<◌, ◌≤◌, true, List, [], ◌∷◌, length, Some, None, refl}
use Rattle.std.proofs.Common.{sym, ap, subst, ◌∙◌, arith}
use Rattle.bank.specs.Locks.{fitting, word_at, record_of, node_of}
use Rattle.bank.specs.Memory.{in_range, empty_node}
use Rattle.bank.proofs.Admission.{Sized, sized}
use Rattle.bank.proofs.Askers.{asker_session}
use Rattle.queuing.specs.declared.Stage.{Stage}
use Rattle.queuing.specs.declared.Stage.TheVariants.{Link, See, Close, Inside, Try, Open, Await, Hand}
use Rattle.queuing.specs.declared.word.Word.{Word}
use Rattle.queuing.specs.declared.word.Word.TheVariants.{Free, Held, Window}
use Rattle.queuing.specs.Meaning.{said, walk, line, line_from, age_at}
use Rattle.queuing.specs.State.{State, sessions_of, bins_of, nodes_for}
use Rattle.queuing.specs.Word.{packed, unpacked, Within, versions}
use Rattle.queuing.specs.Lines.{In, last, last_in, few}
use Rattle.queuing.specs.Queue.{Stands, in_asks}
use Rattle.queuing.specs.Walk.{walk_whole}
use Rattle.queuing.specs.Words.{unpacked_packed}

-- the line l stands at bin b, where the word says w
pub record Bin (s : State) (b : ℕ) (w : Word) (l : List ℕ) : Type 0 where
  pub stored : word_at s b ≡ packed w
  pub stands : Stands w (record_of s) (node_of s) b l

pub record Invariant (s : State) : Type 0 where
  pub fit : fitting nodes_for s s.bank.sizes ≡ true
  pub ranged : (i : ℕ) → in_range (bins_of s) (record_of s i) ≡ true
  -- the node of a session without a claim is empty
  pub idle : (i : ℕ) → record_of s i ≡ None → node_of s i ≡ empty_node
  pub bin : (b : ℕ) → b < bins_of s → (w : Word) × (l : List ℕ) × Bin s b w l

pub lengths : {s : State} → Invariant s → Sized (sessions_of s) s.bank.sizes s.memory
lengths {s} I = sized (sessions_of s) s.bank.sizes s.memory I.fit

-- a session has a record and a node
pub own_place : {s : State} {i : ℕ} → Invariant s → i < sessions_of s → (i < length s.memory.records) × (i < length s.memory.nodes)
own_place I h = let z = lengths I in (omega arith, omega arith)

module _ {s : State} {b : ℕ} {w : Word} {l : List ℕ} (I : Invariant s) (B : Bin s b w l) where
  pub member_there : (j : ℕ) → In j l → j < sessions_of s
  member_there j h = asker_session s (sessions_of s) s.bank.sizes b j I.fit (in_asks B.stands j h)

  pub short : length l ≤ sessions_of s
  short = few (sessions_of s) l B.stands.apart member_there

pub age_below : (g : Stage) (v : ℕ) → v < versions → age_at g v < versions
age_below (Link p) v h = h
age_below (See p) v h = omega arith
age_below Close v h = omega arith
age_below Inside v h = h
age_below Try v h = h
age_below Open v h = h
age_below Await v h = h
age_below Hand v h = h

-- the numbers of the word are in their ranges
pub within : {s : State} {b : ℕ} (w : Word) (l : List ℕ) → Invariant s → Bin s b w l → Within (sessions_of s) w
within (Free a) [] I B = B.stands.queue
within (Held n) [] I B = absurd B.stands.queue
within (Window n a) [] I B = absurd B.stands.queue
within (Free a) (f ∷ rest) I B = absurd B.stands.queue.2.says
within {s} (Held n) (f ∷ rest) I B =
    let h = subst (λ x. x < sessions_of s) (sym B.stands.queue.2.says) (member_there I B (last f rest) (last_in f rest)) in
    let z = lengths I in
    (h, omega arith)
within {s} (Window n a) (f ∷ rest) I B =
    let F = B.stands.queue.2 in
    let h = subst (λ x. x < sessions_of s) (sym F.says.0) (member_there I B (last f rest) (last_in f rest)) in
    let z = lengths I in
    (h, omega arith, subst (λ x. x < versions) (sym F.says.1) (age_below B.stands.queue.0 B.stands.queue.1 F.below))

-- THE WORD AND THE LINE as the kind tells them
module _ {s : State} {b : ℕ} {w : Word} {l : List ℕ} (I : Invariant s) (B : Bin s b w l) where
  pub said_is : said s b ≡ Some w
  said_is = ap (λ x. unpacked x (sessions_of s)) B.stored ∙ unpacked_packed (sessions_of s) w (within w l I B)

  pub line_is : line s b ≡ l
  line_is = ap (line_from s) said_is ∙ walked w l B
    where
      walked_back :
          (x : Word) (f : ℕ) (rest : List ℕ) → Bin s b x (f ∷ rest) → walk (sessions_of s) s (last f rest) [] ≡ f ∷ rest
      walked_back x f rest C =
          let F = C.stands.queue.2 in
          let h = short I C in
          walk_whole s C.stands.queue.1 F.chain F.holds F.below (member_there I C) (omega arith)

      walked : (x : Word) (m : List ℕ) → Bin s b x m → line_from s (Some x) ≡ m
      walked (Free a) [] C = refl
      walked (Held n) [] C = absurd C.stands.queue
      walked (Window n a) [] C = absurd C.stands.queue
      walked (Free a) (f ∷ rest) C = absurd C.stands.queue.2.says
      walked (Held n) (f ∷ rest) C =
          ap (λ j. walk (sessions_of s) s j []) C.stands.queue.2.says ∙ walked_back (Held n) f rest C
      walked (Window n a) (f ∷ rest) C =
          ap (λ j. walk (sessions_of s) s j []) C.stands.queue.2.says.0 ∙ walked_back (Window n a) f rest C
