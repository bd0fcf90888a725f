-- When each call is refused and when it is granted, and what holds at any state.
use Rattle.std.specs.Prelude.{◌≡◌, ℕ, ◌<◌, ◌≤◌, Bool, true, false, if◌then◌else◌, not, ◌&&◌, List, ◌∷◌, ◌++◌, length, is_ok, is_err, Some, None, Ok, Err, Option, ◌==◌, ◌≢◌, refl}
use Rattle.std.proofs.Common.{sym, ap, ◌∙◌, arith}
use Rattle.std.proofs.lemmas.List.{length-set}
use Rattle.std.proofs.lemmas.Bool.{lt-ltb, and_right, not_from_true, not_from_false, true≢false, false≢true, false_from_ne_true}
use Rattle.bank.specs.Claims.{passes, at_stage, askers}
use Rattle.bank.specs.Laws.{RefusedAltersNothing, Kept, CallsKeepSizes, UnfitIsRefused, AskRule, PushRule, LeaveRule, PeekRule, AheadRule}
use Rattle.bank.specs.Locks.{fitting, word_at, record_of}
use Rattle.bank.specs.Memory.{stage_at}
use Rattle.bank.specs.Outcome.{Outcome}
use Rattle.bank.specs.Refusals.{bad_record, out_of_turn}
use Rattle.bank.specs.declared.answers.AskAnswer.{AskAnswer}
use Rattle.bank.specs.declared.answers.LeaveAnswer.{LeaveAnswer}
use Rattle.bank.specs.declared.answers.PushAnswer.{PushAnswer}
use Rattle.bank.specs.declared.memory.Claim.{Claim}
use Rattle.bank.proofs.Admission.{session_unfit, session_missing, session_there, bin_unfit, bin_missing, bin_there, own_unfit, own_no_session, own_no_bin}
use Rattle.bank.proofs.Askers.{no_claim, not_at}
use Rattle.bank.proofs.Claims.{at_stage_from, stage_claim, asker_claim, inside_claim}
use Rattle.bank.proofs.Itself.{kept_self}
use Rattle.bank.proofs.Layouts.{layout_refused}
use Rattle.ticket.specs.declared.Turn.{Turn}
use Rattle.ticket.specs.declared.Turn.TheVariants.{Waiting, Inside}
use Rattle.ticket.specs.Word.{past}
use Rattle.ticket.specs.State.{State, sessions_of, bins_of, nodes_for, entered, not_entered, own_record, own_stage, lawful_word, ticket_of}
use Rattle.ticket.specs.Meaning.{inside, line}
use Rattle.ticket.specs.Calls.{laid_out, asks_word, asks_own, asks, called, pushes_word, pushes_own, pushes, leaves_word, leaves_own, leaves, peeks_word, counts_word, counts_own, counts}
use Rattle.ticket.specs.Tickets.{served_below, past_forward}
use Rattle.ticket.specs.Invariant.{served_at, Invariant, lengths, few_outstanding}
use Rattle.ticket.specs.Views.{ticket, claim_in_range, reads_record, reads_word, AskView, ask_view, ask_refused, ask_drawn, PushView, push_view, push_refused, push_waits, push_in, LeaveView, leave_view, leave_refused, leave_out}
use Rattle.ticket.specs.Meanings.{inside_one, line_place}

-- AT ANY STATE
pub refused_alters_nothing : (s : State) (i b : ℕ) → RefusedAltersNothing ticket s i b
refused_alters_nothing s i b =
    record {
      lays = layout_refused ticket laid_out (λ s z a. refl) s;
      asks = ask (ask_view s i b);
      pushes = push (push_view s i b);
      leaves = leave (leave_view s i b);
    }
  where
    ask : AskView s i b → is_err (asks s i b).answer ≡ true → (asks s i b).after ≡ s
    ask (ask_refused f e) h = ap (λ (o : Outcome AskAnswer State). o.after) e
    ask (ask_drawn U e) h = absurd (false≢true (sym (ap (λ (o : Outcome AskAnswer State). is_err o.answer) e) ∙ h))

    push : PushView s i b → is_err (pushes s i b).answer ≡ true → (pushes s i b).after ≡ s
    push (push_refused f e) h = ap (λ (o : Outcome PushAnswer State). o.after) e
    push (push_waits c C t e) h = ap (λ (o : Outcome PushAnswer State). o.after) e
    push (push_in c C n t e) h =
        absurd (false≢true (sym (ap (λ (o : Outcome PushAnswer State). is_err o.answer) e) ∙ h))

    leave : LeaveView s i b → is_err (leaves s i b).answer ≡ true → (leaves s i b).after ≡ s
    leave (leave_refused f e) h = ap (λ (o : Outcome LeaveAnswer State). o.after) e
    leave (leave_out c C n e) h =
        absurd (false≢true (sym (ap (λ (o : Outcome LeaveAnswer State). is_err o.answer) e) ∙ h))

pub calls_keep_sizes : (s : State) (i b : ℕ) → CallsKeepSizes ticket s i b
calls_keep_sizes s i b =
    record {
      asks = ask (ask_view s i b);
      pushes = push (push_view s i b);
      leaves = leave (leave_view s i b);
    }
  where
    ask : AskView s i b → Kept ticket s (asks s i b).after
    ask (ask_refused f e) = rw e (kept_self ticket s)
    ask (ask_drawn U e) = rw e (record { sizes = refl; fit = simp length-set })

    push : PushView s i b → Kept ticket s (pushes s i b).after
    push (push_refused f e) = rw e (kept_self ticket s)
    push (push_waits c C t e) = rw e (kept_self ticket s)
    push (push_in c C n t e) = rw e (record { sizes = refl; fit = simp length-set })

    leave : LeaveView s i b → Kept ticket s (leaves s i b).after
    leave (leave_refused f e) = rw e (kept_self ticket s)
    leave (leave_out c C n e) = rw e (record { sizes = refl; fit = simp length-set })

pub unfit_is_refused :
    (s : State) (i b : ℕ) → fitting nodes_for s s.bank.sizes ≡ false → UnfitIsRefused ticket s i b
unfit_is_refused s i b e =
    let own = own_unfit 0 s.bank.sizes s.memory i b e in
    record {
      asks = ap (λ o. (asks_own o s i b).answer) own;
      pushes = ap (λ o. (pushes_own (stage_at o i b) s i b).answer) own;
      leaves = ap (λ o. (leaves_own (stage_at o i b) s i b).answer) own;
      peeks = ap (λ a. peeks_word a (lawful_word s b)) (bin_unfit 0 s.bank.sizes s.memory b e);
      counts = ap (λ a. counts_own a (record_of s i) s i) (session_unfit 0 s.bank.sizes s.memory i e);
    }

-- IN A REACHED STATE
-- a session that asks at no bin has no claim
unclaimed : (s : State) (i : ℕ) → Invariant s → ((c : ℕ) → c < bins_of s → askers s c i ≡ false) → record_of s i ≡ None
unclaimed s i I = no_claim s (bins_of s) i (claim_in_range s i I)

-- calls of a session and at a bin that there are
module _ (s : State) (i b : ℕ) (I : Invariant s) (hi : i < sessions_of s) (hb : b < bins_of s) where
  reads : (r : Option (Claim Turn)) → record_of s i ≡ r → own_record s i b ≡ Ok r
  reads r e = reads_record s i b I hi hb ∙ ap Ok e

  ask_reads : (r : Option (Claim Turn)) → record_of s i ≡ r → asks s i b ≡ asks_word r (Ok (word_at s b)) s i b
  ask_reads r e = ap (λ o. asks_own o s i b) (reads r e) ∙ ap (λ w. asks_word r w s i b) (reads_word s b I hb)

  stage_reads : (r : Option (Claim Turn)) → record_of s i ≡ r → own_stage s i b ≡ stage_at (Ok r) i b
  stage_reads r e = ap (λ o. stage_at o i b) (reads r e)

  push_out_of_turn :
      (r : Option (Claim Turn)) → record_of s i ≡ r → passes (at_stage not_entered b) r ≡ false →
      (pushes s i b).answer ≡ Err (out_of_turn i)
  push_out_of_turn r e f = ap (λ x. (pushes_own x s i b).answer) (stage_reads r e) ∙ go r f
    where
      at_bin :
          (x : Bool) (g : Turn) → (x && not_entered g) ≡ false →
          (pushes_own (if x then Ok g else Err (out_of_turn i)) s i b).answer ≡ Err (out_of_turn i)
      at_bin false g f = refl
      at_bin true (Inside t) f = refl
      at_bin true (Waiting t) f = cc

      go :
          (r : Option (Claim Turn)) → passes (at_stage not_entered b) r ≡ false →
          (pushes_own (stage_at (Ok r) i b) s i b).answer ≡ Err (out_of_turn i)
      go None f = refl
      go (Some c) f = at_bin (c.bin == b) c.stage f

  push_granted :
      (c : Claim Turn) → record_of s i ≡ Some c → at_stage not_entered b c ≡ true →
      is_ok (pushes s i b).answer ≡ true
  push_granted c e f =
      ap (λ x. is_ok (pushes_own x s i b).answer) (stage_reads (Some c) e) ∙ at_bin (c.bin == b) c.stage f
    where
      answers : (t : ℕ) (x : Bool) → (t == served_at s b) ≡ x → is_ok (called t s i b (served_at s b)).answer ≡ true
      answers t true g = rw g
      answers t false g = rw g

      at_bin :
          (x : Bool) (g : Turn) → (x && not_entered g) ≡ true →
          is_ok (pushes_own (if x then Ok g else Err (out_of_turn i)) s i b).answer ≡ true
      at_bin false g f = cc
      at_bin true (Inside t) f = cc
      at_bin true (Waiting t) f =
          ap (λ w. is_ok (pushes_word t w s i b).answer) (reads_word s b I hb) ∙ answers t (t == served_at s b) refl

  leave_out_of_turn :
      (r : Option (Claim Turn)) → record_of s i ≡ r → passes (at_stage entered b) r ≡ false →
      (leaves s i b).answer ≡ Err (out_of_turn i)
  leave_out_of_turn r e f = ap (λ x. (leaves_own x s i b).answer) (stage_reads r e) ∙ go r f
    where
      at_bin :
          (x : Bool) (g : Turn) → (x && entered g) ≡ false →
          (leaves_own (if x then Ok g else Err (out_of_turn i)) s i b).answer ≡ Err (out_of_turn i)
      at_bin false g f = refl
      at_bin true (Waiting t) f = refl
      at_bin true (Inside t) f = cc

      go :
          (r : Option (Claim Turn)) → passes (at_stage entered b) r ≡ false →
          (leaves_own (stage_at (Ok r) i b) s i b).answer ≡ Err (out_of_turn i)
      go None f = refl
      go (Some c) f = at_bin (c.bin == b) c.stage f

  leave_granted :
      (c : Claim Turn) → record_of s i ≡ Some c → at_stage entered b c ≡ true → is_ok (leaves s i b).answer ≡ true
  leave_granted c e f =
      ap (λ x. is_ok (leaves_own x s i b).answer) (stage_reads (Some c) e) ∙ at_bin (c.bin == b) c.stage f
    where
      at_bin :
          (x : Bool) (g : Turn) → (x && entered g) ≡ true →
          is_ok (leaves_own (if x then Ok g else Err (out_of_turn i)) s i b).answer ≡ true
      at_bin false g f = cc
      at_bin true (Waiting t) f = cc
      at_bin true (Inside t) f = ap (λ w. is_ok (leaves_word w s i b).answer) (reads_word s b I hb)

pub ask_rule : (s : State) (i b : ℕ) → Invariant s → AskRule ticket s i b
ask_rule s i b I =
    record {
      no_session = λ h. rw (own_no_session 0 s.bank.sizes s.memory i b I.fit h);
      no_bin = λ h k. rw (own_no_bin 0 s.bank.sizes s.memory i b I.fit h k);
      asker =
          λ h k c l e.
          let v = asker_claim s c i e in
          ap (λ (o : Outcome AskAnswer State). o.answer) (ask_reads s i b I h k (Some v.0) v.1);
      granted =
          λ h k n.
          ap (λ (o : Outcome AskAnswer State). is_ok o.answer) (ask_reads s i b I h k None (unclaimed s i I n));
    }

pub push_rule : (s : State) (i b : ℕ) → Invariant s → PushRule ticket s i b
push_rule s i b I =
    record {
      no_session = λ h. rw (own_no_session 0 s.bank.sizes s.memory i b I.fit h);
      no_bin = λ h k. rw (own_no_bin 0 s.bank.sizes s.memory i b I.fit h k);
      stranger = λ h k e. push_out_of_turn s i b I h k (record_of s i) refl (not_at not_entered (record_of s i) b e);
      inside =
          λ h k e.
          let w = inside_claim entered s b i e in
          let n = not_from_true (entered w.0.stage) w.3 in
          push_out_of_turn s i b I h k (Some w.0) w.1 (and_right (w.0.bin == b) (not (entered w.0.stage)) n);
      granted =
          λ h k e n.
          let v = asker_claim s b i e in
          push_granted s i b I h k v.0 v.1 (waits v.0 v.1 v.2 n);
    }
  where
    waits :
        (c : Claim Turn) → record_of s i ≡ Some c → c.bin ≡ b → (inside s b ≢ Some i) →
        at_stage not_entered b c ≡ true
    waits c e q n =
        let p = false_from_ne_true (entered c.stage) (λ p. n (inside_one s b i c I e q p)) in
        at_stage_from not_entered b c q (not_from_false (entered c.stage) p)

pub leave_rule : (s : State) (i b : ℕ) → Invariant s → LeaveRule ticket s i b
leave_rule s i b I =
    record {
      no_session = λ h. rw (own_no_session 0 s.bank.sizes s.memory i b I.fit h);
      no_bin = λ h k. rw (own_no_bin 0 s.bank.sizes s.memory i b I.fit h k);
      not_inside = λ h k n. leave_out_of_turn s i b I h k (record_of s i) refl (not_entered_here n);
      granted =
          λ h k e.
          let w = inside_claim entered s b i e in
          leave_granted s i b I h k w.0 w.1 (at_stage_from entered b w.0 w.2 w.3);
    }
  where
    not_entered_here : (inside s b ≢ Some i) → passes (at_stage entered b) (record_of s i) ≡ false
    not_entered_here n =
        false_from_ne_true
        (passes (at_stage entered b) (record_of s i))
        (λ p.
        let w = stage_claim entered b (record_of s i) p in
        n (inside_one s b i w.0 I w.1 w.2 w.3))

pub peek_rule : (s : State) (b : ℕ) → Invariant s → PeekRule ticket s b
peek_rule s b I =
    record {
      no_bin = λ h. ap (λ a. peeks_word a (lawful_word s b)) (bin_missing 0 s.bank.sizes s.memory b I.fit h);
      granted =
          λ h.
          ap (λ a. peeks_word a (lawful_word s b)) (bin_there 0 s.bank.sizes s.memory b I.fit h)
          ∙ ap (peeks_word (Ok tt)) (reads_word s b I h);
    }

below_all : {p q r : ℕ} → p < q → q ≤ r → p < r
below_all l m = omega arith

-- the count of a session with a claim
counts_claim :
    (s : State) (i : ℕ) (c : Claim Turn) → Invariant s → i < sessions_of s → record_of s i ≡ Some c →
    counts s i ≡ Ok (Some (past (ticket_of c.stage) (served_at s c.bin)))
counts_claim s i c I h e =
    let V = I.valid i c.bin c e refl in
    let n = past (ticket_of c.stage) (served_at s c.bin) in
    let few = lt-ltb n (sessions_of s) (below_all V.drawn (few_outstanding s c.bin I V.bin)) in
    let there = lt-ltb c.bin (bins_of s) V.bin in
    ap (λ a. counts_own a (record_of s i) s i) (session_there 0 s.bank.sizes s.memory i I.fit h)
    ∙ ap (λ r. counts_own (Ok tt) r s i) e
    ∙ ap (λ t. if t then counts_word c (lawful_word s c.bin) s i else Err (bad_record i)) there
    ∙ ap (λ w. counts_word c w s i) (reads_word s c.bin I V.bin)
    ∙ ap (λ t. if t then Ok (Some n) else Err (bad_record i)) few

pub ahead_rule : (s : State) (i : ℕ) → Invariant s → AheadRule ticket s i
ahead_rule s i I =
    record {
      no_session = λ h. ap (λ a. counts_own a (record_of s i) s i) (session_missing 0 s.bank.sizes s.memory i I.fit h);
      in_no_line =
          λ h e.
          ap (λ a. counts_own a (record_of s i) s i) (session_there 0 s.bank.sizes s.memory i I.fit h)
          ∙ ap (λ r. counts_own (Ok tt) r s i) (unclaimed s i I e);
      without_lines = λ f h. absurd (true≢false f);
      those_before = λ f h b front rest k e. counts_front h b front rest k e;
    }
  where
    few_tickets : {p q r : ℕ} → p < q → q ≤ r → r ≤ 1024 → p < 4294967296
    few_tickets l m k = omega arith

    counts_front :
        i < sessions_of s → (b : ℕ) (front rest : List ℕ) → b < bins_of s → line s b ≡ front ++ (i ∷ rest) →
        counts s i ≡ Ok (Some (length front))
    counts_front h b front rest k e =
        let w = line_place s b i front rest I k e in
        let c = w.1.0 in
        let l = few_tickets w.0 (few_outstanding s b I k) (lengths s I).few_sessions in
        counts_claim s i c I h w.1.1
        ∙ ap (λ d. Ok (Some (past (ticket_of c.stage) (served_at s d)))) w.1.2
        ∙ ap (λ t. Ok (Some (past t (served_at s b)))) w.1.3
        ∙ ap (λ n. Ok (Some n)) (past_forward (served_at s b) (length front) (served_below (word_at s b)) l)
