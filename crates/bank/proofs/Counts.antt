-- How many records pass a test, and what a record that is replaced does to that number.
use Rattle.std.proofs.Common.{◌≡◌, ℕ, zero, suc, ◌+◌, ◌<◌, ◌≤◌, Bool, true, false, cond, List, [], ◌∷◌, length, get_or, set, replicate, None, Option, refl, ap, arith}
use Rattle.bank.specs.Claims.{passes}

abbrev pub count : {X : Type 0} → (X → Bool) → List (Option X) → ℕ
count p [] = 0
count p (r ∷ rs) = cond (passes p r) (suc (count p rs)) (count p rs)

abbrev pub one : Bool → ℕ
one t = cond t 1 0

pub count_le : {X : Type 0} (p : X → Bool) (rs : List (Option X)) → count p rs ≤ length rs
count_le p [] = omega arith
count_le p (r ∷ rs) = go (passes p r) (count_le p rs)
  where
    go : (t : Bool) → count p rs ≤ length rs → cond t (suc (count p rs)) (count p rs) ≤ suc (length rs)
    go true h = omega arith
    go false h = omega arith

pub count_set :
    {X : Type 0} (p : X → Bool) (rs : List (Option X)) (i : ℕ) (r : Option X) → i < length rs →
    count p (set rs i r) + one (passes p (get_or rs i None)) ≡ count p rs + one (passes p r)
count_set p [] i r h = absurd (omega arith)
count_set p (x ∷ rs) zero r h = go (passes p x) (passes p r)
  where
    go : (t u : Bool) →
        cond u (suc (count p rs)) (count p rs) + one t ≡ cond t (suc (count p rs)) (count p rs) + one u
    go true true = refl
    go true false = omega arith
    go false true = omega arith
    go false false = refl
count_set p (x ∷ rs) (suc i) r h = go (passes p x) (count_set p rs i r (omega arith))
  where
    go : (t : Bool) →
        count p (set rs i r) + one (passes p (get_or rs i None)) ≡ count p rs + one (passes p r) →
        cond t (suc (count p (set rs i r))) (count p (set rs i r)) + one (passes p (get_or rs i None))
        ≡ cond t (suc (count p rs)) (count p rs) + one (passes p r)
    go true e = omega arith
    go false e = e

-- the new record passes where the old one did
pub count_same :
    {X : Type 0} (p : X → Bool) (rs : List (Option X)) (i : ℕ) (r : Option X) → passes p r ≡ passes p (get_or rs i None) →
    count p (set rs i r) ≡ count p rs
count_same p [] i r e = refl
count_same p (x ∷ rs) zero r e = ap (λ t. cond t (suc (count p rs)) (count p rs)) e
count_same p (x ∷ rs) (suc i) r e = ap (λ n. cond (passes p x) (suc n) n) (count_same p rs i r e)

pub count_none : {X : Type 0} (p : X → Bool) (n : ℕ) → count p (replicate n None) ≡ 0
count_none p zero = refl
count_none p (suc n) = count_none p n
