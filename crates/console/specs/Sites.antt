-- What the console does with what is laid out.
use Rattle.std.specs.Prelude.{◌≡◌, Some, None, Ok, Err, IsSomeAnd, Option, Result}
use Rattle.bank.specs.Kind.{Kind}
use Rattle.bank.specs.KindOf.{kind_of}
use Rattle.bank.specs.LaidBank.{Starts, Refuses}
use Rattle.bank.specs.Locks.{locks}
use Rattle.central.specs.contracts.CentralBank.TheImpl as central
use Rattle.central.specs.State as central_state
use Rattle.commands.specs.Responses.{reply_of, state_after}
use Rattle.commands.specs.declared.replies.Declined.{Declined}
use Rattle.commands.specs.declared.replies.Declined.TheVariants.{Refused, Unreadable, NotNow, NoMemory}
use Rattle.commands.specs.declared.replies.Reply.{Reply}
use Rattle.commands.specs.declared.replies.Reply.TheVariants.{Laid}
use Rattle.commands.specs.declared.syntax.Command.{Command}
use Rattle.commands.specs.declared.syntax.Command.TheVariants.{Bank}
use Rattle.commands.specs.declared.syntax.KindName.{KindName}
use Rattle.commands.specs.declared.syntax.KindName.TheVariants as name
use Rattle.commands.specs.declared.syntax.Setup.{Setup}
use Rattle.console.specs.declared.site.Site.{Site}
use Rattle.console.specs.declared.site.Site.TheVariants.{Ticket, Central}
use Rattle.ticket.specs.contracts.TicketBank.TheImpl as ticket
use Rattle.ticket.specs.State as ticket_state

abbrev pub ticket_kind : Kind ticket_state.State
ticket_kind = kind_of ticket.ghosts

abbrev pub central_kind : Kind central_state.State
central_kind = kind_of central.ghosts

-- the bank is of that kind, and P holds of its state
abbrev pub IsTicketAnd : (ticket_state.State → Type 0) → Site → Type 0
IsTicketAnd P (Ticket laid) = P (locks laid.bank laid.memory)
IsTicketAnd P (Central laid) = ⊥

abbrev pub IsCentralAnd : (central_state.State → Type 0) → Site → Type 0
IsCentralAnd P (Ticket laid) = ⊥
IsCentralAnd P (Central laid) = P (locks laid.bank laid.memory)

-- a bank of the kind that the setup names, laid out as it says, so that all laws hold of it
abbrev pub New : KindName → Setup → Site → Type 0
New name.Ticket z = IsTicketAnd (Starts ticket_kind z.sizes z.start)
New name.Central z = IsCentralAnd (Starts central_kind z.sizes z.start)
New name.Queuing z = λ site. ⊥

-- why there is no new bank of a kind: refused by 1 for a size or the age, or no memory
abbrev pub Fails : {S : Type 0} → Kind S → Setup → Declined → Type 0
Fails k z (Refused f) = Refuses k z.sizes z.start f
Fails k z NoMemory = Unit {0}
Fails k z Unreadable = ⊥
Fails k z NotNow = ⊥

-- why there is no new bank of the kind that the setup names; the queuing kind is not there yet
abbrev pub Declines : KindName → Setup → Declined → Type 0
Declines name.Ticket z declined = Fails ticket_kind z declined
Declines name.Central z declined = Fails central_kind z declined
Declines name.Queuing z declined = declined ≡ NotNow

-- `bank`, from what was laid out to what is: a new bank, or what was there stays
abbrev pub StartsOver : Setup → Option Site → Result Reply Declined → Option Site → Type 0
StartsOver z s (Ok reply) t = (reply ≡ Laid) × IsSomeAnd t (New z.kind z)
StartsOver z s (Err declined) t = Declines z.kind z declined × (t ≡ s)

-- a command but `bank`: with nothing laid out it is not now, else what the bank replies
abbrev pub Responds : Option Site → Command → Result Reply Declined → Option Site → Type 0
Responds None c r t = (r ≡ Err NotNow) × (t ≡ None)
Responds (Some (Ticket laid)) c r t =
    let s = locks laid.bank laid.memory in
    (r ≡ reply_of ticket_kind s c) × IsSomeAnd t (IsTicketAnd (λ u. u ≡ state_after ticket_kind s c))
Responds (Some (Central laid)) c r t =
    let s = locks laid.bank laid.memory in
    (r ≡ reply_of central_kind s c) × IsSomeAnd t (IsCentralAnd (λ u. u ≡ state_after central_kind s c))

-- any command
abbrev pub CarriesOut : Option Site → Command → Result Reply Declined → Option Site → Type 0
CarriesOut s (Bank z) r t = StartsOver z s r t
CarriesOut s c r t = Responds s c r t
