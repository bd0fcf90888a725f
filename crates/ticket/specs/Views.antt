-- The ways that an ask, a push and a leave may go, and that every reached state has the invariant.
use Rattle.std.specs.Prelude.{◌≡◌, ℕ, ◌<◌, Bool, true, false, ◌⊎◌, is_ok, Some, None, Ok, Err, Option, Result, ◌==◌, ◌≢◌, refl}
use Rattle.std.proofs.Common.{inl, inr, ap, ◌∙◌}
use Rattle.std.proofs.lemmas.Bool.{eqb-true, eqb-false, lt-ltb, le-leb}
use Rattle.bank.specs.Claims as claims
use Rattle.bank.specs.Claims.{at_stage, claim}
use Rattle.bank.specs.Kind.{Kind, kind, Reached, after_layout, after_ask, after_push, after_leave}
use Rattle.bank.specs.Locks.{fitting, with_bank, word_at, record_of, with_record}
use Rattle.bank.specs.Memory.{in_range}
use Rattle.bank.specs.Outcome.{refused, granted}
use Rattle.bank.specs.Refusals.{bad_word, out_of_turn}
use Rattle.bank.specs.declared.answers.PushAnswer.TheVariants.{Waits, In}
use Rattle.bank.specs.declared.memory.Claim.{Claim}
use Rattle.bank.specs.declared.memory.Sizes.{Sizes}
use Rattle.bank.specs.declared.refusals.Fault.{Fault}
use Rattle.bank.proofs.Admission.{owned, own_there, At, stage_cases}
use Rattle.bank.proofs.Layouts.{layout_granted}
use Rattle.ticket.specs.declared.Turn.{Turn}
use Rattle.ticket.specs.declared.Turn.TheVariants.{Waiting, Inside}
use Rattle.ticket.specs.Word as words
use Rattle.ticket.specs.Word.{outstanding, lawful}
use Rattle.ticket.specs.State.{State, sessions_of, bins_of, nodes_for, entered, own_record, lawful_word, ticket_of}
use Rattle.ticket.specs.Meaning as meaning
use Rattle.ticket.specs.Calls as calls
use Rattle.ticket.specs.Calls.{laid_out, lays, drawn, asks_word, asks_own, asks, pushes_word, pushes_own, pushes, served_next, leaves_word, leaves_own, leaves}
use Rattle.ticket.specs.Invariant.{next_at, served_at, Invariant, few_outstanding, laid_invariant, Unclaimed, ask_invariant, Claimed, push_invariant, leave_invariant}

abbrev pub ticket : Kind State
ticket =
    kind
    (λ s. s.bank.sizes)
    nodes_for
    (fitting nodes_for)
    (with_bank (λ k. k))
    words.count
    claims.askers
    meaning.leaving
    meaning.inside
    meaning.age
    meaning.calm
    meaning.mark
    words.calm_of
    words.age_of
    true
    meaning.line
    meaning.needed
    1
    0
    calls.lays
    calls.asks
    calls.pushes
    calls.leaves
    calls.peeks
    calls.counts

-- what a call reads where the invariant holds
pub claim_in_range : (s : State) (i : ℕ) → Invariant s → in_range (bins_of s) (record_of s i) ≡ true
claim_in_range s i I = go (record_of s i) refl
  where
    go : (r : Option (Claim Turn)) → record_of s i ≡ r → in_range (bins_of s) r ≡ true
    go None e = refl
    go (Some c) e = lt-ltb c.bin (bins_of s) (I.valid i c.bin c e refl).bin

pub reads_record :
    (s : State) (i b : ℕ) → Invariant s → i < sessions_of s → b < bins_of s → own_record s i b ≡ Ok (record_of s i)
reads_record s i b I h k = own_there 0 s.bank.sizes s.memory i b I.fit h k (claim_in_range s i I)

pub reads_word : (s : State) (b : ℕ) → Invariant s → b < bins_of s → lawful_word s b ≡ Ok (word_at s b)
reads_word s b I h = rw (le-leb (outstanding (word_at s b)) (sessions_of s) (few_outstanding s b I h))

-- a lock word is read, or refused by 9
abbrev ReadCases : State → ℕ → Type 0
ReadCases s b = (lawful_word s b ≡ Ok (word_at s b)) ⊎ (lawful_word s b ≡ Err (bad_word b))

read_cases : (s : State) (b : ℕ) → ReadCases s b
read_cases s b = go (lawful (sessions_of s) (word_at s b)) refl
  where
    go : (t : Bool) → lawful (sessions_of s) (word_at s b) ≡ t → ReadCases s b
    go true e = inl (rw e)
    go false e = inr (rw e)

-- what a call has found once it has read its own record
unclaimed : (s : State) (i b : ℕ) → own_record s i b ≡ Ok None → Unclaimed s i b
unclaimed s i b e =
    let o = owned 0 s.bank.sizes s.memory i b None e in
    record { session = o.admitted.session; bin = o.admitted.bin; none = o.read }

abbrev Staged : State → ℕ → ℕ → Turn → Type 0
Staged s i b g = At 0 s.bank.sizes s.memory i b g

claimed : {s : State} {i b : ℕ} {g : Turn} → Staged s i b g → Claimed s i b (claim b g)
claimed a = record { session = a.admitted.session; bin = a.admitted.bin; read = a.read; here = refl }

-- ASK
pub data AskView (s : State) (i b : ℕ) : Type 0 where
  ask_refused : (f : Fault) → asks s i b ≡ refused s f → AskView s i b
  ask_drawn : Unclaimed s i b → asks s i b ≡ drawn s i b (next_at s b) (served_at s b) → AskView s i b

pub ask_view : (s : State) (i b : ℕ) → AskView s i b
ask_view s i b = go (own_record s i b) refl
  where
    inner :
        (r : Option (Claim Turn)) → own_record s i b ≡ Ok r → asks s i b ≡ asks_word r (lawful_word s b) s i b →
        ReadCases s b → AskView s i b
    inner (Some c) p e (inl w) = ask_refused (out_of_turn i) (e ∙ ap (λ x. asks_word (Some c) x s i b) w)
    inner (Some c) p e (inr w) = ask_refused (bad_word b) (e ∙ ap (λ x. asks_word (Some c) x s i b) w)
    inner None p e (inl w) = ask_drawn (unclaimed s i b p) (e ∙ ap (λ x. asks_word None x s i b) w)
    inner None p e (inr w) = ask_refused (bad_word b) (e ∙ ap (λ x. asks_word None x s i b) w)

    go : (o : Result (Option (Claim Turn)) Fault) → own_record s i b ≡ o → AskView s i b
    go (Err f) p = ask_refused f (ap (λ o. asks_own o s i b) p)
    go (Ok r) p = inner r p (ap (λ o. asks_own o s i b) p) (read_cases s b)

-- PUSH
pub data PushView (s : State) (i b : ℕ) : Type 0 where
  push_refused : (f : Fault) → pushes s i b ≡ refused s f → PushView s i b
  push_waits :
      (c : Claim Turn) → Claimed s i b c → (ticket_of c.stage ≢ served_at s b) → pushes s i b ≡ granted s Waits →
      PushView s i b
  push_in :
      (c : Claim Turn) → Claimed s i b c → entered c.stage ≡ false → ticket_of c.stage ≡ served_at s b →
      pushes s i b ≡ granted (with_record s i (Some (claim b (Inside (ticket_of c.stage))))) In → PushView s i b

pub push_view : (s : State) (i b : ℕ) → PushView s i b
push_view s i b =
    stage_cases 0 s.bank.sizes s.memory i b (λ x. pushes s i b ≡ pushes_own x s i b → PushView s i b) stages push_refused refl
  where
    compare :
        (t : ℕ) → Claimed s i b (claim b (Waiting t)) → pushes s i b ≡ pushes_word t (Ok (word_at s b)) s i b →
        (x : Bool) → (t == served_at s b) ≡ x → PushView s i b
    compare t C e true g = push_in (claim b (Waiting t)) C refl (eqb-true t (served_at s b) g) (e ∙ rw g)
    compare t C e false g = push_waits (claim b (Waiting t)) C (eqb-false t (served_at s b) g) (e ∙ rw g)

    waiting :
        (t : ℕ) → Claimed s i b (claim b (Waiting t)) → pushes s i b ≡ pushes_word t (lawful_word s b) s i b →
        ReadCases s b → PushView s i b
    waiting t C e (inl w) = compare t C (e ∙ ap (λ x. pushes_word t x s i b) w) (t == served_at s b) refl
    waiting t C e (inr w) = push_refused (bad_word b) (e ∙ ap (λ x. pushes_word t x s i b) w)

    stages : (g : Turn) → Staged s i b g → pushes s i b ≡ pushes_own (Ok g) s i b → PushView s i b
    stages (Inside t) a e = push_refused (out_of_turn i) e
    stages (Waiting t) a e = waiting t (claimed a) e (read_cases s b)

-- LEAVE
pub data LeaveView (s : State) (i b : ℕ) : Type 0 where
  leave_refused : (f : Fault) → leaves s i b ≡ refused s f → LeaveView s i b
  leave_out :
      (c : Claim Turn) → Claimed s i b c → entered c.stage ≡ true → leaves s i b ≡ served_next s i b (word_at s b) →
      LeaveView s i b

pub leave_view : (s : State) (i b : ℕ) → LeaveView s i b
leave_view s i b =
    stage_cases 0 s.bank.sizes s.memory i b (λ x. leaves s i b ≡ leaves_own x s i b → LeaveView s i b) stages leave_refused refl
  where
    inside :
        (t : ℕ) → Claimed s i b (claim b (Inside t)) → leaves s i b ≡ leaves_word (lawful_word s b) s i b →
        ReadCases s b → LeaveView s i b
    inside t C e (inl w) = leave_out (claim b (Inside t)) C refl (e ∙ ap (λ x. leaves_word x s i b) w)
    inside t C e (inr w) = leave_refused (bad_word b) (e ∙ ap (λ x. leaves_word x s i b) w)

    stages : (g : Turn) → Staged s i b g → leaves s i b ≡ leaves_own (Ok g) s i b → LeaveView s i b
    stages (Waiting t) a e = leave_refused (out_of_turn i) e
    stages (Inside t) a e = inside t (claimed a) e (read_cases s b)

-- EVERY REACHED STATE: each call keeps the invariant
lays_invariant : (s : State) (z : Sizes) (a : ℕ) → is_ok (lays s z a).answer ≡ true → Invariant (lays s z a).after
lays_invariant s z a h =
    let g = layout_granted ticket laid_out (λ s z a. refl) s z a h in
    rw g.2 (laid_invariant s z a g.0 g.1)

asks_invariant : (s : State) (i b : ℕ) → Invariant s → Invariant (asks s i b).after
asks_invariant s i b I = go (ask_view s i b)
  where
    go : AskView s i b → Invariant (asks s i b).after
    go (ask_refused f e) = rw e I
    go (ask_drawn U e) = rw e (ask_invariant I U)

pushes_invariant : (s : State) (i b : ℕ) → Invariant s → Invariant (pushes s i b).after
pushes_invariant s i b I = go (push_view s i b)
  where
    go : PushView s i b → Invariant (pushes s i b).after
    go (push_refused f e) = rw e I
    go (push_waits c C n e) = rw e I
    go (push_in c C n t e) = rw e (push_invariant I C t)

leaves_invariant : (s : State) (i b : ℕ) → Invariant s → Invariant (leaves s i b).after
leaves_invariant s i b I = go (leave_view s i b)
  where
    go : LeaveView s i b → Invariant (leaves s i b).after
    go (leave_refused f e) = rw e I
    go (leave_out c C n e) = rw e (leave_invariant I C n)

pub reached_invariant : {s : State} → Reached ticket s → Invariant s
reached_invariant (after_layout s z a h) = lays_invariant s z a h
reached_invariant (after_ask s i b r) = asks_invariant s i b (reached_invariant r)
reached_invariant (after_push s i b r) = pushes_invariant s i b (reached_invariant r)
reached_invariant (after_leave s i b r) = leaves_invariant s i b (reached_invariant r)
