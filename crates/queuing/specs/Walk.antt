-- The walk back through the remembered nodes finds the line, and the count along it those ahead.
use Rattle.std.specs.Prelude.{◌≡◌, ℕ, zero, suc, ◌+◌, ◌-◌, ◌<◌, ◌≤◌, List, [], ◌∷◌, ◌++◌, length, Some, None, Ok, refl}
use Rattle.std.proofs.Common.{inl, inr, sym, ap, ◌∙◌, zero-add, arith}
use Rattle.std.proofs.lemmas.List.{append-nil}
use Rattle.std.proofs.lemmas.Bool.{lt-ltb}
use Rattle.bank.specs.Locks.{record_of, node_of}
use Rattle.queuing.specs.Calls.{behind, count_on, counted}
use Rattle.queuing.specs.Meaning.{walk, walk_on}
use Rattle.queuing.specs.State.{State, sessions_of}
use Rattle.queuing.specs.Word.{versions}
use Rattle.queuing.specs.Lines.{In, last}
use Rattle.queuing.specs.Queue.{Behind, behind_none, behind_remembers, Chain, ends, goes_on, chain_parts}

module _ (s : State) where
  -- the first stands behind nobody
  pub first_behind : (f v : ℕ) → (node_of s f).version ≡ Some v → v < versions → behind s f ≡ Ok None
  first_behind f v e l = rw (e, lt-ltb v versions l)

  pub other_behind :
      {b p q : ℕ} → p < sessions_of s → Behind (record_of s) (node_of s) b p q → behind s q ≡ Ok (Some p)
  other_behind {b} {p} {q} l d = rw (behind_none d, behind_remembers d, lt-ltb p (sessions_of s) l)

  -- from the last of a chain back to its first
  pub walk_back :
      {b p : ℕ} {l : List ℕ} → Chain (record_of s) (node_of s) b p l → ((j : ℕ) → In j (p ∷ l) → j < sessions_of s) →
      (k : ℕ) (after : List ℕ) → walk (length l + k) s (last p l) after ≡ walk k s p (l ++ after)
  walk_back {b} {p} (ends e) h k after = ap (λ n. walk n s p after) (zero-add k)
  walk_back {b} {p} (goes_on {q} {qs} d c) h k after =
      let one : suc (length qs) + k ≡ length qs + suc k = omega arith in
      ap (λ n. walk n s (last q qs) after) one
      ∙ walk_back c (λ j m. h j (inr m)) (suc k) after
      ∙ ap (λ r. walk_on r (q ∷ (qs ++ after)) (λ x. walk k s x (q ∷ (qs ++ after)))) (other_behind (h p (inl refl)) d)

  walk_first :
      (f v k : ℕ) (after : List ℕ) → (node_of s f).version ≡ Some v → v < versions → walk k s f after ≡ f ∷ after
  walk_first f v zero after e l = refl
  walk_first f v (suc k) after e l =
      ap (λ r. walk_on r (f ∷ after) (λ x. walk k s x (f ∷ after))) (first_behind f v e l)

  pub walk_whole :
      {b f : ℕ} {rest : List ℕ} (v : ℕ) → Chain (record_of s) (node_of s) b f rest → (node_of s f).version ≡ Some v →
      v < versions → ((j : ℕ) → In j (f ∷ rest) → j < sessions_of s) → length rest ≤ sessions_of s →
      walk (sessions_of s) s (last f rest) [] ≡ f ∷ rest
  walk_whole {b} {f} {rest} v c e l h few =
      let n = sessions_of s in
      let room : n ≡ length rest + (n - length rest) = omega arith in
      ap (λ k. walk k s (last f rest) []) room
      ∙ walk_back c h (n - length rest) []
      ∙ walk_first f v (n - length rest) (rest ++ []) e l
      ∙ ap (λ r. f ∷ r) (append-nil rest)

  -- the count along the same way, from one in the chain, asked by session i
  counted_back :
      {b : ℕ} (i p : ℕ) (l post : List ℕ) → Chain (record_of s) (node_of s) b p (l ++ post) →
      ((j : ℕ) → In j (p ∷ (l ++ post)) → j < sessions_of s) → (k n : ℕ) →
      counted (length l + suc k) s i (last p l) n ≡ counted (suc k) s i p (length l + n)
  counted_back i p [] post c h k n =
      ap (λ m. counted m s i p n) (zero-add (suc k)) ∙ ap (counted (suc k) s i p) (sym (zero-add n))
  counted_back i p (q ∷ qs) post c h k n =
      let d = chain_parts c in
      let one : suc (length qs) + suc k ≡ length qs + suc (suc k) = omega arith in
      let more : length qs + n + 1 ≡ suc (length qs) + n = omega arith in
      ap (λ m. counted m s i (last q qs) n) one
      ∙ counted_back i q qs post d.1 (λ j m. h j (inr m)) (suc k) n
      ∙ ap (λ r. count_on r (length qs + n) (λ x. counted (suc k) s i x (length qs + n + 1))) (other_behind (h p (inl refl)) d.0)
      ∙ ap (counted (suc k) s i p) more

  -- session i stands behind the first and l
  pub counted_is :
      {b f v : ℕ} (i : ℕ) (l post : List ℕ) → Chain (record_of s) (node_of s) b f (l ++ post) →
      (node_of s f).version ≡ Some v → v < versions → ((j : ℕ) → In j (f ∷ (l ++ post)) → j < sessions_of s) →
      length l < sessions_of s → last f l ≡ i → counted (sessions_of s) s i i 0 ≡ Ok (Some (length l))
  counted_is {b} {f} {v} i l post c e lv h few z =
      let n = sessions_of s in
      let k = n - length l - 1 in
      let room : n ≡ length l + suc k = omega arith in
      let none : length l + 0 ≡ length l = omega arith in
      ap (λ m. counted m s i i 0) room
      ∙ ap (λ j. counted (length l + suc k) s i j 0) (sym z)
      ∙ counted_back i f l post c h k 0
      ∙ ap (λ r. count_on r (length l + 0) (λ x. counted k s i x (length l + 0 + 1))) (first_behind f v e lv)
      ∙ ap (λ m. Ok (Some m)) none
