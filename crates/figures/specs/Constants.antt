-- The constants of the kinds, as their ghost members say them.
use Rattle.std.specs.Prelude.{◌≡◌, ℕ, true, false, List, [], ◌∷◌}
use Rattle.central.specs.contracts.CentralBank.TheImpl as central
use Rattle.ticket.specs.contracts.TicketBank.TheImpl as ticket

-- M, A and R of the ticket kind, and M of the central kind
abbrev pub constants_told : List ℕ
constants_told = (ticket.ghosts).modulus ∷ ((ticket.ghosts).entry_pushes ∷ ((ticket.ghosts).exit_pushes ∷ ((central.ghosts).modulus ∷ [])))

abbrev pub Fairness : Type 0
Fairness = ((ticket.ghosts).fair ≡ true) × ((central.ghosts).fair ≡ false)
