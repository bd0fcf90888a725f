-- What a granted ask, push and leave do.
use Rattle.std.specs.Prelude.{◌≡◌, ℕ, suc, ◌%◌, ◌<◌, ◌≤◌, Bool, true, false, cond, ◌&&◌, List, [], ◌∷◌, ◌++◌, Some, None, Ok, Option, ◌==◌, ◌≢◌, nat_eq, slice_index, slice_index_or, slice_set, refl}
use Rattle.std.proofs.lemmas.Option.{same_Some}
use Rattle.std.proofs.Common.{sym, ap, ◌∙◌, arith}
use Rattle.std.proofs.lemmas.List.{get_or-set_other}
use Rattle.std.proofs.lemmas.Bool.{eq-eqb, ne_eqb, and_right, true≢false, false_from_ne_true}
use Rattle.bank.specs.Claims.{passes, at, at_stage, claim}
use Rattle.bank.specs.Kind.{Same, Entry, NoEntry, has}
use Rattle.bank.specs.Laws.{AskEffect, PushEffect, LeaveEffect, FairAsk, FairPush, FairLeave}
use Rattle.bank.specs.Locks.{word_at, record_of, with_record}
use Rattle.bank.specs.Outcome.{Outcome, granted}
use Rattle.bank.specs.declared.answers.AskAnswer.{AskAnswer}
use Rattle.bank.specs.declared.answers.AskAnswer.TheVariants.{In as EntersAtOnce, NotYet}
use Rattle.bank.specs.declared.answers.LeaveAnswer.{LeaveAnswer}
use Rattle.bank.specs.declared.answers.LeaveAnswer.TheVariants.{Out as OutAtOnce}
use Rattle.bank.specs.declared.answers.PushAnswer.{PushAnswer}
use Rattle.bank.specs.declared.answers.PushAnswer.TheVariants.{Waits, In}
use Rattle.bank.specs.declared.memory.Claim.{Claim}
use Rattle.bank.proofs.Askers.{at_no_other, changed, same_stage, same_askers, same_inside, passes_join, passes_drop}
use Rattle.bank.proofs.Claims.{passes_set, found_set, nobody_inside}
use Rattle.bank.proofs.Distinct.{asked_in, asked_not_yet}
use Rattle.bank.proofs.Itself.{same_self}
use Rattle.ticket.specs.declared.Turn.{Turn}
use Rattle.ticket.specs.declared.Turn.TheVariants.{Inside}
use Rattle.ticket.specs.Word.{served_of, word_of, after, past, outstanding, calm_of}
use Rattle.ticket.specs.State.{State, entered, ticket_of}
use Rattle.ticket.specs.Meaning.{inside, age_with, calm, holds, holders, line, needed_by}
use Rattle.ticket.specs.Calls.{drawn, asks, pushes, served_next, leaves}
use Rattle.ticket.specs.Tickets.{forward, served_below, past_forward, forward_past, forward_none, forward_apart}
use Rattle.ticket.specs.Holders.{holders_set, holders_round, holders_push}
use Rattle.ticket.specs.Invariant.{next_at, served_at, outstanding_at, Invariant, lengths, Unclaimed, asked, new_claim, ask_next, ask_length, ask_own, ask_room, ask_serves, ask_outstanding, ask_invariant, Claimed, entry_claim, pushed, push_own, push_at, push_invariant, left, leave_ticket, leave_serves, leave_outstanding, leave_few, leave_length, leave_own, leave_claims, new_ticket, new_entered}
use Rattle.ticket.specs.Views.{ticket}
use Rattle.ticket.specs.Meanings.{inside_one, of_ticket, holder_is, calm_outstanding, outstanding_calm, calm_inside, unasked_outstanding, line_first, line_place, line_meaning}

-- A CALL AT ANOTHER BIN
-- neither the old nor the new record is a claim at bin c, whose word is the same
same_elsewhere :
    (s : State) (ws : List ℕ) (i : ℕ) (r : Option (Claim Turn)) (c : ℕ) → slice_index ws c ≡ word_at s c →
    passes (at c) r ≡ false → passes (at c) (record_of s i) ≡ false → Same ticket s (changed s ws i r) c
same_elsewhere s ws i r c w p q =
    let t = changed s ws i r in
    let rs = s.memory.records in
    let v = served_at t c in
    let e = same_inside s ws i r c p q entered in
    record {
      askers = same_askers s ws i r c p q;
      leaving = λ j. refl;
      inside = e;
      age = ap (age_with v) e ∙ ap (λ x. age_with (served_of x) (inside s c)) w;
      calm = ap calm_of w;
      mark = w;
      line =
          holders_set rs i r c v (outstanding_at t c) (λ o l. same_stage s ws i r c p q (of_ticket (forward v o)))
          ∙ ap (λ x. holders rs c (served_of x) (outstanding x)) w;
    }

-- PUSHES NEEDED
few_needed : (r : Option (Claim Turn)) → needed_by r ≤ 1
few_needed None = omega arith
few_needed (Some c) = go (entered c.stage)
  where
    go : (t : Bool) → cond t 0 1 ≤ 1
    go true = omega arith
    go false = omega arith

no_more : {p q : ℕ} → p ≡ q → p ≤ q
no_more e = omega arith

-- another session keeps its record, and needs as many pushes as before
other_needs :
    (s : State) (i : ℕ) (r : Option (Claim Turn)) (j : ℕ) → (j ≢ i) →
    needed_by (slice_index_or (slice_set s.memory.records i r) j None) ≤ needed_by (record_of s j)
other_needs s i r j n = no_more (ap needed_by (get_or-set_other s.memory.records i j r None n))

-- ASK
module _
    {s : State} {i b : ℕ} (I : Invariant s) (U : Unclaimed s i b)
    (e : asks s i b ≡ drawn s i b (next_at s b) (served_at s b)) where
  -- the state after the ask
  abbrev t : State
  t = asked I U

  answered : (asks s i b).answer ≡ Ok (cond (calm s b) EntersAtOnce NotYet)
  answered = ap (λ (o : Outcome AskAnswer State). o.answer) e

  ask_entry : calm s b ≡ true → Entry ticket s t i b
  ask_entry q =
      let z = calm_inside s b I q in
      let y = inside_one t b i (new_claim I U) (ask_invariant I U) (ask_own I U) refl (new_entered I U ∙ q) in
      record {
        nobody_inside = z;
        not_leaving = refl;
        inside = y;
        age = ap (age_with (served_at t b)) y ∙ ap after (ask_serves I U) ∙ ap after (sym (ap (age_with (served_at s b)) z));
        leaving = λ j. refl;
      }

  ask_no_entry : calm s b ≡ false → NoEntry ticket s t b
  ask_no_entry q =
      let out = and_right (b == b) (entered (new_claim I U).stage) (new_entered I U ∙ q) ∙ sym (ap (passes (at_stage entered b)) U.none) in
      let y = found_set (at_stage entered b) 0 s.memory.records i (Some (new_claim I U)) out in
      record {
        inside = y;
        age = ap (age_with (served_at t b)) y ∙ ap (λ v. age_with v (inside s b)) (ask_serves I U);
        leaving = λ j. refl;
      }

  pub ask_effect : AskEffect ticket s t i b
  ask_effect =
      record {
        joins = λ j. passes_join (at b) s.memory.records i (new_claim I U) j (ask_length I U) (eq-eqb b b refl);
        in_enters = λ a. ask_entry (asked_in (calm s b) (sym answered ∙ a));
        not_yet_enters_nobody = λ a. ask_no_entry (asked_not_yet (calm s b) (sym answered ∙ a));
        other_bins_keep_all =
            λ c _ q.
            let w = get_or-set_other s.memory.words b c (word_of (after (next_at s b)) (served_at s b)) 0 q in
            let new = ne_eqb b c (λ x. q (sym x)) in
            same_elsewhere s t.memory.words i (Some (new_claim I U)) c w new (ap (passes (at c)) U.none);
      }

  -- the new ticket is none of those outstanding
  ask_later :
      (o : ℕ) → o < outstanding_at s b →
      passes (holds b (forward (served_at s b) o)) (Some (new_claim I U))
      ≡ passes (holds b (forward (served_at s b) o)) (record_of s i)
  ask_later o l =
      let z = lengths s I in
      let m = forward (served_at s b) o in
      let f = past_forward (served_at s b) o (served_below (word_at s b)) (few l (ask_room I U) z.few_sessions) in
      let d : next_at s b ≡ m → ⊥ = λ q. differ l (ap (λ x. past x (served_at s b)) q ∙ f) in
      let new = ne_eqb (ticket_of (new_claim I U).stage) m (λ q. d (sym (new_ticket I U) ∙ q)) in
      and_right (b == b) (ticket_of (new_claim I U).stage == m) new ∙ sym (ap (passes (holds b m)) U.none)
    where
      few : {p q r : ℕ} → p < q → q < r → r ≤ 1024 → p < 4294967296
      few l m k = omega arith

      differ : {p q : ℕ} → p < q → q ≢ p
      differ l e = omega arith

  ask_line : line t b ≡ line s b ++ (i ∷ [])
  ask_line =
      let rs = t.memory.records in
      let v = served_at s b in
      let n = outstanding_at s b in
      let ticket = new_ticket I U ∙ sym (forward_past (next_at s b) v (ask_next I U) (served_below (word_at s b))) in
      let last = holder_is t b (forward v n) i (new_claim I U) (ask_invariant I U) (ask_own I U) refl ticket in
      ap (λ x. holders rs b x (outstanding_at t b)) (ask_serves I U)
      ∙ ap (holders rs b v) (ask_outstanding I U)
      ∙ holders_push rs b v n i last
      ∙ ap (λ l. l ++ (i ∷ [])) (holders_set s.memory.records i (Some (new_claim I U)) b v n ask_later)

  empty_calm : line s b ≡ [] → calm s b ≡ true
  empty_calm q =
      outstanding_calm s b I U.bin
      (unasked_outstanding s b I U.bin (λ j. (line_meaning s b I U.bin).holds_the_askers j ∙ ap (has j) q))

  calm_empty : calm s b ≡ true → line s b ≡ []
  calm_empty q = ap (holders s.memory.records b (served_at s b)) (calm_outstanding s b q)

  not_calm : (line s b ≢ []) → calm s b ≡ false
  not_calm q = false_from_ne_true (calm s b) (λ x. q (calm_empty x))

  pub fair_ask : FairAsk ticket s t i b
  fair_ask =
      record {
        lines_up_last = ask_line;
        empty_line_enters = λ q. answered ∙ ap (λ x. Ok (cond x EntersAtOnce NotYet)) (empty_calm q);
        others_enter_later = λ q. answered ∙ ap (λ x. Ok (cond x EntersAtOnce NotYet)) (not_calm q);
        few_pushes_needed = few_needed (record_of t i);
        no_other_needs_more = other_needs s i (Some (new_claim I U));
      }

-- PUSH
-- a push that waits
module _
    {s : State} {i b : ℕ} {c : Claim Turn} (I : Invariant s) (C : Claimed s i b c)
    (et : ticket_of c.stage ≡ served_at s b → ⊥) (e : pushes s i b ≡ granted s Waits) where
  waited : (pushes s i b).answer ≡ Ok Waits
  waited = ap (λ (o : Outcome PushAnswer State). o.answer) e

  pub push_waits_effect : PushEffect ticket s s i b
  push_waits_effect =
      record {
        waits_alters_nothing = λ a. refl;
        waits_keeps_all = λ a k. same_self ticket s k;
        moved_enters_nobody = λ a. cc (waited);
        in_enters = λ a. cc (waited);
        out_had_left = λ a. cc (waited);
        out_keeps_inside = λ a. refl;
        out_keeps_age = λ a. refl;
        out_takes_off = λ a. cc (waited);
        out_ends_leaving = λ a. cc (waited);
        others_stay = λ a j. refl;
        other_bins_keep_all = λ k _ q. same_self ticket s k;
      }

  -- the first in line has the ticket served, and does not wait
  not_first : (rest : List ℕ) → line s b ≢ i ∷ rest
  not_first rest q =
      let w = (line_place s b i [] rest I C.bin q).1 in
      let d = same_Some c w.0 (sym C.read ∙ w.1) in
      let z = forward_none (served_at s b) (served_below (word_at s b)) in
      et (ap (λ (x : Claim Turn). ticket_of x.stage) d ∙ w.3 ∙ z)

  pub fair_push_waits : FairPush ticket s s i b
  fair_push_waits =
      record {
        fewer_needed = λ a. absurd (a waited);
        no_other_needs_more = λ j q. no_more refl;
        line_stays = λ a. refl;
        out_goes_first = λ a. cc (waited);
        first_does_not_wait = λ rest q l a. not_first rest q;
        leaver_waits_for_second = λ l a. absurd (true≢false (sym l));
      }

-- a push that brings the session in
module _
    {s : State} {i b : ℕ} {c : Claim Turn} (I : Invariant s) (C : Claimed s i b c)
    (ei : entered c.stage ≡ false) (et : ticket_of c.stage ≡ served_at s b)
    (e : pushes s i b ≡ granted (with_record s i (Some (claim b (Inside (ticket_of c.stage))))) In) where
  -- the state after the push
  abbrev u : State
  u = pushed I C et

  came_in : (pushes s i b).answer ≡ Ok In
  came_in = ap (λ (o : Outcome PushAnswer State). o.answer) e

  -- another one inside would hold the same ticket
  push_nobody : inside s b ≡ None
  push_nobody = nobody_inside entered s b other
    where
      other : (j : ℕ) (d : Claim Turn) → record_of s j ≡ Some d → d.bin ≡ b → entered d.stage ≢ true
      other j d f q r =
          let w = I.unique j i d c f C.read (q ∙ sym C.here) ((I.valid j b d f q).first r ∙ sym et) in
          let k = same_Some d c (sym f ∙ ap (record_of s) w ∙ C.read) in
          true≢false (sym r ∙ ap (λ (z : Claim Turn). entered z.stage) k ∙ ei)

  push_entry : Entry ticket s u i b
  push_entry =
      let y = inside_one u b i (entry_claim I C et) (push_invariant I C et) (push_own I C et) refl refl in
      record {
        nobody_inside = push_nobody;
        not_leaving = refl;
        inside = y;
        age = ap (age_with (served_at s b)) y ∙ ap after (sym (ap (age_with (served_at s b)) push_nobody));
        leaving = λ j. refl;
      }

  pub push_in_effect : PushEffect ticket s u i b
  push_in_effect =
      record {
        waits_alters_nothing = λ a. cc (came_in);
        waits_keeps_all = λ a. cc (came_in);
        moved_enters_nobody = λ a. cc (came_in);
        in_enters = λ a. push_entry;
        out_had_left = λ a. cc (came_in);
        out_keeps_inside = λ a. cc (came_in);
        out_keeps_age = λ a. cc (came_in);
        out_takes_off = λ a. cc (came_in);
        out_ends_leaving = λ a. cc (came_in);
        others_stay =
            λ a j. passes_set (at b) s.memory.records i (Some (entry_claim I C et)) j (push_at I C et b);
        other_bins_keep_all =
            λ k _ q.
            let off : nat_eq b k ≡ false = ne_eqb b k (λ x. q (sym x)) in
            same_elsewhere s s.memory.words i (Some (entry_claim I C et)) k refl off (sym (push_at I C et k) ∙ off);
      }

  -- its ticket is the same
  push_line : line u b ≡ line s b
  push_line =
      let v = served_at s b in
      holders_set s.memory.records i (Some (entry_claim I C et)) b v (outstanding_at s b) (λ o l. same (forward v o))
    where
      same : (m : ℕ) → passes (holds b m) (Some (entry_claim I C et)) ≡ passes (holds b m) (record_of s i)
      same m = ap (λ d. (d == b) && ticket_of c.stage == m) (sym C.here) ∙ sym (ap (passes (holds b m)) C.read)

  pub fair_push_in : FairPush ticket s u i b
  fair_push_in =
      record {
        fewer_needed = λ a. one_less (ap needed_by (push_own I C et)) (ap needed_by C.read ∙ ap (λ x. cond x 0 1) ei);
        no_other_needs_more = other_needs s i (Some (entry_claim I C et));
        line_stays = λ a. push_line;
        out_goes_first = λ a. cc (came_in);
        first_does_not_wait = λ rest q l a. cc (came_in);
        leaver_waits_for_second = λ l a. absurd (true≢false (sym l));
      }
    where
      one_less : {p q : ℕ} → p ≡ 0 → q ≡ 1 → p < q
      one_less f g = omega arith

-- LEAVE
module _
    {s : State} {i b : ℕ} {c : Claim Turn} (I : Invariant s) (C : Claimed s i b c) (ei : entered c.stage ≡ true)
    (e : leaves s i b ≡ served_next s i b (word_at s b)) where
  -- the state after the leave
  abbrev v : State
  v = left I C ei

  went_out : (leaves s i b).answer ≡ Ok OutAtOnce
  went_out = ap (λ (o : Outcome LeaveAnswer State). o.answer) e

  leave_nobody : inside v b ≡ None
  leave_nobody = nobody_inside entered v b other
    where
      other : (j : ℕ) (d : Claim Turn) → record_of v j ≡ Some d → d.bin ≡ b → entered d.stage ≢ true
      other j d f q r =
          let w = leave_claims I C ei j d f in
          let t = (I.valid j b d w.1 q).first r ∙ sym (leave_ticket I C ei) in
          w.0 (I.unique j i d c w.1 C.read (q ∙ sym C.here) t)

  pub leave_effect : LeaveEffect ticket s v i b
  leave_effect =
      record {
        nobody_inside = leave_nobody;
        keeps_age =
            ap (age_with (served_at v b)) leave_nobody
            ∙ leave_serves I C ei
            ∙ sym (ap (age_with (served_at s b)) (inside_one s b i c I C.read C.here ei));
        out_takes_off = λ a j. passes_drop (at b) s.memory.records i j (leave_length I C ei);
        out_leaves_nobody = λ a j. refl;
        moved_stays_asker = λ a. cc (went_out);
        moved_is_leaving = λ a. cc (went_out);
        other_bins_keep_all =
            λ k _ q.
            let w = get_or-set_other s.memory.words b k (word_of (next_at s b) (after (served_at s b))) 0 q in
            let old = at_no_other (record_of s i) c b k C.read C.here q in
            same_elsewhere s v.memory.words i None k w refl old;
      }

  -- the leaver holds none of the later tickets
  leave_later :
      (o : ℕ) → o < outstanding_at v b →
      passes (holds b (forward (suc (served_at s b)) o)) None
      ≡ passes (holds b (forward (suc (served_at s b)) o)) (record_of s i)
  leave_later o l =
      let m = forward (suc (served_at s b)) o in
      let f = and_right (c.bin == b) (ticket_of c.stage == m) (ne_eqb (ticket_of c.stage) m differ) in
      sym (ap (passes (holds b m)) C.read ∙ f)
    where
      few : {p q : ℕ} → p < q → suc q ≤ 1024 → suc p < 4294967296
      few l k = omega arith

      differ : ticket_of c.stage ≡ forward (suc (served_at s b)) o → ⊥
      differ q =
          let e = ap (λ n. n % 4294967296) (omega arith) ∙ sym q ∙ leave_ticket I C ei in
          forward_apart (served_at s b) o (served_below (word_at s b)) (few l (leave_few I C ei)) e

  leave_rest : line v b ≡ holders s.memory.records b (suc (served_at s b)) (outstanding_at v b)
  leave_rest =
      let rs = v.memory.records in
      let n = outstanding_at v b in
      ap (λ x. holders rs b x n) (leave_serves I C ei)
      ∙ holders_round rs b (after (served_at s b)) (suc (served_at s b)) n (omega arith)
      ∙ holders_set s.memory.records i None b (suc (served_at s b)) n leave_later

  leave_line : line s b ≡ i ∷ line v b
  leave_line =
      line_first s b i c (outstanding_at v b) I C.read C.here (leave_ticket I C ei) (leave_outstanding I C ei)
      ∙ ap (λ l. i ∷ l) (sym leave_rest)

  pub fair_leave : FairLeave ticket s v i b
  fair_leave =
      record {
        few_pushes_needed = no_more (ap needed_by (leave_own I C ei));
        no_other_needs_more = other_needs s i None;
        line_stays = λ a. cc (went_out);
        out_goes_first = λ a. leave_line;
      }
