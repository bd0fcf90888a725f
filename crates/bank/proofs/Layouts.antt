-- States of all sizes; and layout, for any kind that grants it by the lengths and the age: its rule and what it leaves.
use Rattle.std.proofs.Common.{◌≡◌, ℕ, ◌<◌, Bool, true, false, cond, ◌&&◌, eqb, ltb, is_ok, is_err, Option, sym, refl, ap, ◌∙◌}
use Rattle.std.proofs.lemmas.List.{length-replicate}
use Rattle.std.proofs.lemmas.Bool.{lt-ltb, le-ltb, ltb-true, eq-eqb, and_parts, and_from, and_left, and_right, false≢true}
use Rattle.bank.specs.Kind.{Kind}
use Rattle.bank.specs.Laws.{LayoutRule}
use Rattle.bank.specs.Locks.{Locks, fitting, laid_with}
use Rattle.bank.specs.Memory.{blank, within_limits, has_lengths}
use Rattle.bank.specs.Outcome.{granted, refused}
use Rattle.bank.specs.Refusals.{bad_size}
use Rattle.bank.specs.declared.memory.Sizes.{Sizes}
use Rattle.bank.proofs.Admission.{sized}

-- new memory of the lengths told fits
pub blank_fits :
    {R : Type 0} (nodes : ℕ) (r : R) (z : Sizes) → within_limits z ≡ true →
    has_lengths nodes z (blank (record { words = z.bins; records = z.sessions; nodes = nodes }) r) ≡ true
blank_fits nodes r z h =
    let own : (n : ℕ) → eqb n n ≡ true = λ n. eq-eqb n n refl in
    simp (length-replicate, h, own z.bins, own z.sessions, own nodes)

-- there is a state of any sizes within their limits
pub some_state :
    {B R : Type 0} (nodes : Sizes → ℕ) (bank : Sizes → B) (r : R) (z : Sizes) → within_limits z ≡ true →
    (s : Locks B R) × (fitting nodes s z ≡ true)
some_state nodes bank r z h = (
  record { bank = bank z; memory = blank (record { words = z.bins; records = z.sessions; nodes = nodes z }) r },
  blank_fits (nodes z) r z h,
)

-- layout leaves the same from all that fits
pub laid_alike :
    {B X : Type 0} {bank : B} (nodes w : ℕ) (s t : Locks B (Option X)) (z : Sizes) →
    has_lengths nodes z s.memory ≡ true → has_lengths nodes z t.memory ≡ true → laid_with t bank w ≡ laid_with s bank w
laid_alike nodes w s t z h k =
    let x = sized nodes z s.memory h in
    let y = sized nodes z t.memory k in
    rw (x.words, x.records, x.nodes, y.words, y.records, y.nodes)

-- a layout that is granted where the memory fits and the age is below the modulus
module _
    {S : Type 0} (k : Kind S) (laid : S → Sizes → ℕ → S)
    (lays :
    (s : S) (z : Sizes) (a : ℕ) →
    k.lays s z a ≡ cond (k.fits s z && ltb a k.modulus) (granted (laid s z a) tt) (refused s bad_size)) where
  pub layout_rule : (s : S) (z : Sizes) (a : ℕ) → LayoutRule k s z a
  layout_rule s z a =
      let f = k.fits s z in
      let l = ltb a k.modulus in
      record {
        wrong_length = λ e. rw (lays s z a, and_left f l e);
        wrong_age = λ h. rw (lays s z a, and_right f l (le-ltb a k.modulus h));
        granted = λ e h. rw (lays s z a, and_from f l e (lt-ltb a k.modulus h));
      }

  pub layout_granted :
      (s : S) (z : Sizes) (a : ℕ) → is_ok (k.lays s z a).answer ≡ true →
      (k.fits s z ≡ true) × (a < k.modulus) × ((k.lays s z a).after ≡ laid s z a)
  layout_granted s z a h = go (k.fits s z && ltb a k.modulus) refl
    where
      go :
          (t : Bool) → (k.fits s z && ltb a k.modulus) ≡ t →
          (k.fits s z ≡ true) × (a < k.modulus) × ((k.lays s z a).after ≡ laid s z a)
      go true e =
          let p = and_parts (k.fits s z) (ltb a k.modulus) e in
          (p.0, ltb-true a k.modulus p.1, rw (lays s z a, e))
      go false e = absurd (false≢true (rw (lays s z a, e) at h))

  pub layout_refused : (s : S) (z : Sizes) (a : ℕ) → is_err (k.lays s z a).answer ≡ true → (k.lays s z a).after ≡ s
  layout_refused s z a h = go (k.fits s z && ltb a k.modulus) refl
    where
      go : (t : Bool) → (k.fits s z && ltb a k.modulus) ≡ t → (k.lays s z a).after ≡ s
      go true e = absurd (false≢true (rw (lays s z a, e) at h))
      go false e = rw (lays s z a, e)

  pub layouts_alike :
      ((s t : S) (z : Sizes) (a : ℕ) → k.fits s z ≡ true → k.fits t z ≡ true → laid t z a ≡ laid s z a) →
      (s t : S) (z : Sizes) (a : ℕ) → is_ok (k.lays s z a).answer ≡ true → is_ok (k.lays t z a).answer ≡ true →
      k.effective (k.lays t z a).after ≡ k.effective (k.lays s z a).after
  layouts_alike alike s t z a h j =
      let p = layout_granted s z a h in
      let q = layout_granted t z a j in
      ap k.effective (q.2 ∙ alike s t z a p.0 q.0 ∙ sym p.2)
