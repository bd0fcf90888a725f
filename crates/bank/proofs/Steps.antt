-- A call leads from a reached state to a reached one.
use Rattle.std.proofs.Common.{◌≡◌, ℕ, sym, subst}
use Rattle.bank.specs.Kind.{Kind, Reached, after_ask, after_push, after_leave}

module _ {S : Type 0} {k : Kind S} {s t : S} (i b : ℕ) where
  pub ask_reaches : t ≡ (k.asks s i b).after → Reached k s → Reached k t
  ask_reaches e r = subst (Reached k) (sym e) (after_ask s i b r)

  pub push_reaches : t ≡ (k.pushes s i b).after → Reached k s → Reached k t
  push_reaches e r = subst (Reached k) (sym e) (after_push s i b r)

  pub leave_reaches : t ≡ (k.leaves s i b).after → Reached k s → Reached k t
  leave_reaches e r = subst (Reached k) (sym e) (after_leave s i b r)
