-- Lines as lists of sessions: who stands in one, nobody twice, and who is last.
use Rattle.std.specs.Prelude.{◌≡◌, ℕ, ◌<◌, ◌≤◌, Bool, true, false, ◌||◌, ◌⊎◌, List, [], ◌∷◌, ◌++◌, length, ◌==◌, refl}
use Rattle.std.proofs.Common.{eqb, inl, inr, ⊎_elim, sym, ap, ◌∙◌}
use Rattle.std.specs.List.{AllByRecursion, IsDistinct, list_any}
use Rattle.std.proofs.lemmas.Map.Steps.{length-le_from_distinct_below}
use Rattle.std.proofs.lemmas.Bool.{false≢true, eqb-true, eq-eqb, ne_eqb, or_cases, or_left, or_right, false_from_ne_true}
use Rattle.bank.specs.Kind.{has}

abbrev pub In : ℕ → List ℕ → Type 0
In i [] = ⊥
In i (x ∷ xs) = (i ≡ x) ⊎ In i xs

-- nobody stands twice
abbrev pub Apart : List ℕ → Type 0
Apart [] = Unit {0}
Apart (x ∷ xs) = (In x xs → ⊥) × Apart xs

-- the last of f and those behind it
abbrev pub last : ℕ → List ℕ → ℕ
last f [] = f
last f (q ∷ qs) = last q qs

pub has_in : (i : ℕ) (l : List ℕ) → has i l ≡ true → In i l
has_in i [] h = absurd (false≢true h)
has_in i (x ∷ xs) h = ⊎_elim (λ e. inl (eqb-true i x e)) (λ e. inr (has_in i xs e)) (or_cases (i == x) (has i xs) h)

pub in_has : (i : ℕ) (l : List ℕ) → In i l → has i l ≡ true
in_has i [] h = absurd h
in_has i (x ∷ xs) (inl h) = or_left (i == x) (has i xs) (eq-eqb i x h)
in_has i (x ∷ xs) (inr h) = or_right (i == x) (has i xs) (in_has i xs h)

pub not_in_has : (i : ℕ) (l : List ℕ) → (In i l → ⊥) → has i l ≡ false
not_in_has i l n = false_from_ne_true (has i l) (λ e. n (has_in i l e))

-- ONE MORE at the end
or_swap : (t u v : Bool) → (t || (u || v)) ≡ (u || (t || v))
or_swap true true v = refl
or_swap true false v = refl
or_swap false u v = refl

pub has_push : (j : ℕ) (l : List ℕ) (i : ℕ) → has j (l ++ (i ∷ [])) ≡ (j == i || has j l)
has_push j [] i = refl
has_push j (x ∷ xs) i = ap (λ t. (j == x) || t) (has_push j xs i) ∙ or_swap (j == x) (j == i) (has j xs)

pub in_push : (x : ℕ) (l : List ℕ) (i : ℕ) → In x (l ++ (i ∷ [])) → In x l ⊎ (x ≡ i)
in_push x [] i (inl h) = inr h
in_push x [] i (inr h) = absurd h
in_push x (y ∷ ys) i (inl h) = inl (inl h)
in_push x (y ∷ ys) i (inr h) = ⊎_elim (λ k. inl (inr k)) (λ k. inr k) (in_push x ys i h)

pub apart_push : (l : List ℕ) (i : ℕ) → (In i l → ⊥) → Apart l → Apart (l ++ (i ∷ []))
apart_push [] i n a = (λ k. k, tt)
apart_push (x ∷ xs) i n a = (λ k. ⊎_elim a.0 (λ e. n (inl (sym e))) (in_push x xs i k), apart_push xs i (λ k. n (inr k)) a.1)

pub last_push : (f : ℕ) (l : List ℕ) (i : ℕ) → last f (l ++ (i ∷ [])) ≡ i
last_push f [] i = refl
last_push f (q ∷ qs) i = last_push q qs i

pub last_in : (f : ℕ) (l : List ℕ) → In (last f l) (f ∷ l)
last_in f [] = inl refl
last_in f (q ∷ qs) = inr (last_in q qs)

pub middle_in : (i : ℕ) (front rest : List ℕ) → In i (front ++ (i ∷ rest))
middle_in i [] rest = inl refl
middle_in i (x ∷ xs) rest = inr (middle_in i xs rest)

-- A LINE IS SHORT: sessions below n, nobody twice, are at most n.
apart_others : (x : ℕ) (l : List ℕ) → (In x l → ⊥) → AllByRecursion (λ y. eqb x y ≡ false) l
apart_others x [] n = tt
apart_others x (y ∷ ys) n = (ne_eqb x y (λ e. n (inl e)), apart_others x ys (λ k. n (inr k)))

apart_distinct : (l : List ℕ) → Apart l → IsDistinct eqb l
unfolding IsDistinct
apart_distinct [] a = tt
apart_distinct (x ∷ xs) a = (apart_others x xs a.0, apart_distinct xs a.1)

any_has : (i : ℕ) (l : List ℕ) → list_any (eqb i) l ≡ has i l
any_has i [] = refl
any_has i (x ∷ xs) = ap (λ t. (i == x) || t) (any_has i xs)

pub few : (n : ℕ) (l : List ℕ) → Apart l → ((j : ℕ) → In j l → j < n) → length l ≤ n
few n l a h = length-le_from_distinct_below l n (apart_distinct l a) (λ j e. h j (has_in j l (sym (any_has j l) ∙ e)))
