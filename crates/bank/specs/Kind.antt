-- A lock kind: what its states mean, and what its calls do.
use Rattle.std.specs.Prelude.{◌≡◌, ℕ, ◌+◌, ◌%◌, Bool, true, false, ◌||◌, List, [], ◌∷◌, is_ok, Some, None, Ok, Err, Option, Result, ◌==◌}
use Rattle.bank.specs.Outcome.{Outcome}
use Rattle.bank.specs.declared.answers.AskAnswer.{AskAnswer}
use Rattle.bank.specs.declared.answers.AskAnswer.TheVariants.{In, NotYet}
use Rattle.bank.specs.declared.answers.LeaveAnswer.{LeaveAnswer}
use Rattle.bank.specs.declared.answers.PushAnswer.{PushAnswer}
use Rattle.bank.specs.declared.memory.Sizes.{Sizes}
use Rattle.bank.specs.declared.refusals.Fault.{Fault}

-- A state is a bank with its memory. Sessions and bins go by their numbers.
pub record Kind (S : Type 0) : Type 0 where
  -- the sizes that layout gave
  pub sizes : S → Sizes
  -- how many nodes are told for these sizes
  pub nodes : Sizes → ℕ
  -- whether the memory has the lengths told for these sizes
  pub fits : S → Sizes → Bool
  -- the state without what the kind only notes down
  pub effective : S → S
  -- M: an age is below it
  pub modulus : ℕ
  -- at a bin: the sessions that have asked and are not yet out; those of them that have left; the one inside
  pub askers : S → ℕ → ℕ → Bool
  pub leaving : S → ℕ → ℕ → Bool
  pub inside : S → ℕ → Option ℕ
  -- at a bin: the starting age plus the entries since layout, modulo M; whether readers are admitted; the number that
  -- readers compare
  pub age : S → ℕ → ℕ
  pub calm : S → ℕ → Bool
  pub mark : S → ℕ → ℕ
  -- what a mark tells by itself
  pub calm_of : ℕ → Bool
  pub age_of : ℕ → ℕ
  -- a fair kind has lines: the askers of a bin in the order of their asks
  pub fair : Bool
  pub line : S → ℕ → List ℕ
  -- the pushes other than waits that a session may still need
  pub needed : S → ℕ → ℕ
  -- A: the pushes that a session may need at most after its ask
  pub entry_pushes : ℕ
  -- R: the pushes that a session may need at most after its leave
  pub exit_pushes : ℕ
  -- the calls
  pub lays : S → Sizes → ℕ → Outcome (Unit {0}) S
  pub asks : S → ℕ → ℕ → Outcome AskAnswer S
  pub pushes : S → ℕ → ℕ → Outcome PushAnswer S
  pub leaves : S → ℕ → ℕ → Outcome LeaveAnswer S
  pub peeks : S → ℕ → Result (ℕ × Bool) Fault
  pub counts : S → ℕ → Result (Option ℕ) Fault

-- The kind of these parts, in the order of the record's fields.
abbrev pub kind :
    {S : Type 0} (sizes : S → Sizes) (nodes : Sizes → ℕ) (fits : S → Sizes → Bool) (effective : S → S) (modulus : ℕ)
    (askers leaving : S → ℕ → ℕ → Bool) (inside : S → ℕ → Option ℕ) (age : S → ℕ → ℕ) (calm : S → ℕ → Bool)
    (mark : S → ℕ → ℕ) (calm_of : ℕ → Bool) (age_of : ℕ → ℕ) (fair : Bool) (line : S → ℕ → List ℕ)
    (needed : S → ℕ → ℕ) (entry_pushes exit_pushes : ℕ) (lays : S → Sizes → ℕ → Outcome (Unit {0}) S)
    (asks : S → ℕ → ℕ → Outcome AskAnswer S) (pushes : S → ℕ → ℕ → Outcome PushAnswer S)
    (leaves : S → ℕ → ℕ → Outcome LeaveAnswer S) (peeks : S → ℕ → Result (ℕ × Bool) Fault)
    (counts : S → ℕ → Result (Option ℕ) Fault) →
    Kind S
kind sizes nodes fits effective modulus askers leaving inside age calm mark calm_of age_of fair line needed entry_pushes exit_pushes lays asks pushes leaves peeks counts =
    record {
      sizes = sizes;
      nodes = nodes;
      fits = fits;
      effective = effective;
      modulus = modulus;
      askers = askers;
      leaving = leaving;
      inside = inside;
      age = age;
      calm = calm;
      mark = mark;
      calm_of = calm_of;
      age_of = age_of;
      fair = fair;
      line = line;
      needed = needed;
      entry_pushes = entry_pushes;
      exit_pushes = exit_pushes;
      lays = lays;
      asks = asks;
      pushes = pushes;
      leaves = leaves;
      peeks = peeks;
      counts = counts;
    }

-- a state that layout made and only the kind's calls changed
pub data Reached {S : Type 0} (k : Kind S) : S → Type 0 where
  after_layout : (s : S) (z : Sizes) (a : ℕ) → is_ok (k.lays s z a).answer ≡ true → Reached k (k.lays s z a).after
  after_ask : (s : S) (i b : ℕ) → Reached k s → Reached k (k.asks s i b).after
  after_push : (s : S) (i b : ℕ) → Reached k s → Reached k (k.pushes s i b).after
  after_leave : (s : S) (i b : ℕ) → Reached k s → Reached k (k.leaves s i b).after

-- whether i is in the list
abbrev pub has : ℕ → List ℕ → Bool
has i [] = false
has i (j ∷ js) = i == j || has i js

-- whether an ask made the session an asker
abbrev pub joined : Result AskAnswer Fault → Bool
joined (Ok In) = true
joined (Ok NotYet) = true
joined (Err f) = false

module _ {S : Type 0} (k : Kind S) where
  abbrev pub sessions : S → ℕ
  sessions s = (k.sizes s).sessions

  abbrev pub bins : S → ℕ
  bins s = (k.sizes s).bins

  -- the memory has the lengths told for the sizes that the bank holds
  abbrev pub fit : S → Bool
  fit s = k.fits s (k.sizes s)

  -- t means at bin b what s does
  pub record Same (s t : S) (b : ℕ) : Type 0 where
    pub askers : (i : ℕ) → k.askers t b i ≡ k.askers s b i
    pub leaving : (i : ℕ) → k.leaving t b i ≡ k.leaving s b i
    pub inside : k.inside t b ≡ k.inside s b
    pub age : k.age t b ≡ k.age s b
    pub calm : k.calm t b ≡ k.calm s b
    pub mark : k.mark t b ≡ k.mark s b
    pub line : k.line t b ≡ k.line s b

  -- session i enters bin b between s and t
  pub record Entry (s t : S) (i b : ℕ) : Type 0 where
    pub nobody_inside : k.inside s b ≡ None
    pub not_leaving : k.leaving s b i ≡ false
    pub inside : k.inside t b ≡ Some i
    pub age : k.age t b ≡ (k.age s b + 1) % k.modulus
    pub leaving : (j : ℕ) → k.leaving t b j ≡ k.leaving s b j

  -- nobody enters or leaves bin b between s and t
  pub record NoEntry (s t : S) (b : ℕ) : Type 0 where
    pub inside : k.inside t b ≡ k.inside s b
    pub age : k.age t b ≡ k.age s b
    pub leaving : (j : ℕ) → k.leaving t b j ≡ k.leaving s b j
