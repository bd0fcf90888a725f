-- One turn of the count of those ahead.
use Rattle.std.proofs.Common.{◌≡◌, ℕ, suc, ◌+◌, ◌-◌, ◌<◌, Option, Result, ap, ◌∙◌, arith}
use Rattle.bank.specs.declared.refusals.Fault.{Fault}
use Rattle.queuing.specs.Calls.{behind, count_on, counted}
use Rattle.queuing.specs.State.{State}

pub turn :
    (s : State) (i j c n : ℕ) (r : Result (Option ℕ) Fault) → c < n → behind s j ≡ r →
    counted (n - c) s i j c ≡ count_on r c (λ p. counted (n - (c + 1)) s i p (c + 1))
turn s i j c n r l e =
    let more : n - c ≡ suc (n - (c + 1)) = omega arith in
    ap (λ k. counted k s i j c) more ∙ ap (λ o. count_on o c (λ p. counted (n - (c + 1)) s i p (c + 1))) e
