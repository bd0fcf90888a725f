-- The list of the holders of successive tickets of a bin.
use Rattle.std.specs.Prelude.{◌≡◌, ℕ, zero, suc, ◌+◌, ◌%◌, ◌<◌, true, ◌⊎◌, List, [], ◌∷◌, ◌++◌, length, Some, None, Option, ◌==◌, slice_index_or, slice_set, refl}
use Rattle.std.proofs.Common.{inl, inr, ⊎_elim, sym, ap, subst, ◌∙◌, arith}
use Rattle.std.proofs.lemmas.Bool.{eqb-true, eq-eqb, or_cases, or_left, or_right, true≢false}
use Rattle.bank.specs.Claims.{passes, found}
use Rattle.bank.specs.Kind.{has}
use Rattle.bank.specs.declared.memory.Claim.{Claim}
use Rattle.bank.proofs.Claims.{found_set}
use Rattle.ticket.specs.declared.Turn.{Turn}
use Rattle.ticket.specs.Meaning.{holds, listed, holders}
use Rattle.ticket.specs.Tickets.{forward, round_suc}

abbrev pub Records : Type 0
Records = List (Option (Claim Turn))

-- the holder of a ticket, whose number may have gone round
abbrev holder : Records → ℕ → ℕ → Option ℕ
holder rs b t = found (holds b (t % 4294967296)) 0 rs

-- another record of session i, which holds none of these tickets unless the old one did
pub holders_set :
    (rs : Records) (i : ℕ) (r : Option (Claim Turn)) (b t n : ℕ) →
    ((o : ℕ) → o < n → passes (holds b (forward t o)) r ≡ passes (holds b (forward t o)) (slice_index_or rs i None)) →
    holders (slice_set rs i r) b t n ≡ holders rs b t n
holders_set rs i r b t zero h = refl
holders_set rs i r b t (suc n) h =
    let P : ℕ → Type 0 = λ m. passes (holds b (m % 4294967296)) r ≡ passes (holds b (m % 4294967296)) (slice_index_or rs i None) in
    let g = found_set (holds b (t % 4294967296)) 0 rs i r (subst P (omega arith) (h 0 (omega arith))) in
    let f = holders_set rs i r b (suc t) n (λ o l. subst P (omega arith) (h (suc o) (omega arith))) in
    cc

pub holders_round :
    (rs : Records) (b t u n : ℕ) → t % 4294967296 ≡ u % 4294967296 → holders rs b t n ≡ holders rs b u n
holders_round rs b t u zero e = refl
holders_round rs b t u (suc n) e = let f = holders_round rs b (suc t) (suc u) n (round_suc t u e) in cc

listed_push : (o : Option ℕ) (xs ys : List ℕ) → listed o (xs ++ ys) ≡ listed o xs ++ ys
listed_push None xs ys = refl
listed_push (Some j) xs ys = refl

-- one more ticket, which session i holds
pub holders_push :
    (rs : Records) (b t n i : ℕ) → found (holds b (forward t n)) 0 rs ≡ Some i →
    holders rs b t (suc n) ≡ holders rs b t n ++ (i ∷ [])
holders_push rs b t zero i e =
    let f : holder rs b t ≡ Some i = subst (λ m. holder rs b m ≡ Some i) (omega arith) e in
    ap (λ o. listed o []) f
holders_push rs b t (suc n) i e =
    let f : holder rs b (suc t + n) ≡ Some i = subst (λ m. holder rs b m ≡ Some i) (omega arith) e in
    ap (listed (holder rs b t)) (holders_push rs b (suc t) n i f)
    ∙ listed_push (holder rs b t) (holders rs b (suc t) n) (i ∷ [])

has_listed : (i : ℕ) (o : Option ℕ) (js : List ℕ) → has i (listed o js) ≡ true → (o ≡ Some i) ⊎ (has i js ≡ true)
has_listed i None js e = inr e
has_listed i (Some j) js e = ⊎_elim (λ q. inl (ap Some (sym (eqb-true i j q)))) inr (or_cases (i == j) (has i js) e)

listed_has : (i : ℕ) (o : Option ℕ) (js : List ℕ) → has i js ≡ true → has i (listed o js) ≡ true
listed_has i None js e = e
listed_has i (Some j) js e = or_right (i == j) (has i js) e

listed_here : (i : ℕ) (o : Option ℕ) (js : List ℕ) → o ≡ Some i → has i (listed o js) ≡ true
listed_here i o js e = ap (λ o. has i (listed o js)) e ∙ or_left (i == i) (has i js) (eq-eqb i i refl)

-- one in the list holds one of the tickets
pub has_holders :
    (rs : Records) (b t n i : ℕ) → has i (holders rs b t n) ≡ true →
    (o : ℕ) × (o < n) × (found (holds b (forward t o)) 0 rs ≡ Some i)
has_holders rs b t zero i e = absurd (true≢false (sym e))
has_holders rs b t (suc n) i e = go (has_listed i (holder rs b t) (holders rs b (suc t) n) e) (has_holders rs b (suc t) n i)
  where
    go :
        (holder rs b t ≡ Some i) ⊎ (has i (holders rs b (suc t) n) ≡ true) →
        (has i (holders rs b (suc t) n) ≡ true → (o : ℕ) × (o < n) × (holder rs b (suc t + o) ≡ Some i)) →
        (o : ℕ) × (o < suc n) × (holder rs b (t + o) ≡ Some i)
    go (inl q) h = (0, omega arith, subst (λ m. holder rs b m ≡ Some i) (omega arith) q)
    go (inr q) h =
        let w = h q in
        (suc w.0, omega (arith, w.1), subst (λ m. holder rs b m ≡ Some i) (omega arith) w.2)

-- the holder of one of the tickets is in the list
pub holders_has :
    (rs : Records) (b t n i o : ℕ) → o < n → found (holds b (forward t o)) 0 rs ≡ Some i →
    has i (holders rs b t n) ≡ true
holders_has rs b t zero i o l e = absurd (omega arith)
holders_has rs b t (suc n) i zero l e =
    listed_here i (holder rs b t) (holders rs b (suc t) n) (subst (λ m. holder rs b m ≡ Some i) (omega arith) e)
holders_has rs b t (suc n) i (suc o) l e =
    listed_has i (holder rs b t) (holders rs b (suc t) n)
    (holders_has rs b (suc t) n i o (omega arith) (subst (λ m. holder rs b m ≡ Some i) (omega arith) e))

-- where each ticket has a holder, the one behind front holds the ticket that is as many places on
pub holders_at :
    (rs : Records) (b t n i : ℕ) (front rest : List ℕ) →
    ((o : ℕ) → o < n → (j : ℕ) × (found (holds b (forward t o)) 0 rs ≡ Some j)) →
    holders rs b t n ≡ front ++ (i ∷ rest) →
    (length front < n) × (found (holds b (forward t (length front))) 0 rs ≡ Some i)
holders_at rs b t zero i [] rest h e = absurd (grind arith)
holders_at rs b t zero i (x ∷ front) rest h e = absurd (grind arith)
holders_at rs b t (suc n) i [] rest h e =
    let w = h 0 (omega arith) in
    let f : holder rs b t ≡ Some w.0 = subst (λ m. holder rs b m ≡ Some w.0) (omega arith) w.1 in
    let q : w.0 ∷ holders rs b (suc t) n ≡ i ∷ rest = sym (ap (λ o. listed o (holders rs b (suc t) n)) f) ∙ e in
    let z : w.0 ≡ i = cc in
    (omega arith, subst (λ m. holder rs b m ≡ Some i) (omega arith) (f ∙ ap Some z))
holders_at rs b t (suc n) i (x ∷ front) rest h e =
    let w = h 0 (omega arith) in
    let f : holder rs b t ≡ Some w.0 = subst (λ m. holder rs b m ≡ Some w.0) (omega arith) w.1 in
    let q : w.0 ∷ holders rs b (suc t) n ≡ x ∷ (front ++ (i ∷ rest)) = sym (ap (λ o. listed o (holders rs b (suc t) n)) f) ∙ e in
    let z : holders rs b (suc t) n ≡ front ++ (i ∷ rest) = cc in
    let r = holders_at rs b (suc t) n i front rest later z in
    (omega (arith, r.0), subst (λ m. holder rs b m ≡ Some i) (omega arith) r.1)
  where
    later : (o : ℕ) → o < n → (j : ℕ) × (holder rs b (suc t + o) ≡ Some j)
    later o l =
        let v = h (suc o) (omega arith) in
        (v.0, subst (λ m. holder rs b m ≡ Some v.0) (omega arith) v.1)
