-- What each granted call changes, from a state with the invariant.
use Rattle.std.specs.Prelude.{◌≡◌, ℕ, ◌+◌, ◌%◌, ◌<◌, true, false, List, is_ok, Some, None, Ok, Option, ◌==◌, ◌≢◌, slice_index, slice_set, refl}
use Rattle.std.proofs.Common.{sym, ap, subst, ◌∙◌, arith}
use Rattle.std.proofs.lemmas.List.{get_or-set_same, get_or-set_other}
use Rattle.std.proofs.lemmas.Bool.{eq-eqb, ne_eqb, and_right, false≢true}
use Rattle.bank.specs.Claims.{passes, claim, at, at_stage, askers}
use Rattle.bank.specs.Kind.{Same, Entry, NoEntry, joined}
use Rattle.bank.specs.Laws.{AskEffect, PushEffect, LeaveEffect}
use Rattle.bank.specs.Locks.{word_at, record_of, with_both}
use Rattle.bank.specs.Outcome.{Outcome}
use Rattle.bank.specs.declared.answers.AskAnswer.{AskAnswer}
use Rattle.bank.specs.declared.answers.LeaveAnswer.{LeaveAnswer}
use Rattle.bank.specs.declared.answers.PushAnswer.{PushAnswer}
use Rattle.bank.specs.declared.answers.PushAnswer.TheVariants.{Waits, Moved, In, Out}
use Rattle.bank.specs.declared.memory.Claim.{Claim}
use Rattle.bank.proofs.Askers.{at_no_other, changed, same_askers, same_inside, passes_join, passes_drop}
use Rattle.bank.proofs.Claims.{passes_set, found_set, claim_asker}
use Rattle.bank.proofs.Itself.{same_self}
use Rattle.central.specs.declared.Stage.{Stage}
use Rattle.central.specs.declared.Stage.TheVariants.{Inside}
use Rattle.central.specs.Calls.{staged, after_look, asks, pushes, leaves}
use Rattle.central.specs.State.{State, entered}
use Rattle.central.specs.Word.{lock_bit, unlocked, locked, released, age_of}
use Rattle.central.specs.Invariant.{Invariant, holds, record_there, claim_holds, no_holder, one_holder, outside, own_word_is, entry_invariant, exit_invariant}
use Rattle.central.specs.Meanings.{age_unlocked, age_locked, holds_inside, none_inside}
use Rattle.central.specs.Reachable.{central, look_outside}
use Rattle.central.specs.Views.{AskView, ask_view, ask_refused, ask_joins, PushView, push_view, push_refused, push_waits, push_moves, push_enters, LeaveView, leave_view, leave_refused, leave_exits}

-- a bin whose word stays, and at which session i asks neither before nor after
same_bin :
    (s : State) (ws : List ℕ) (i : ℕ) (r : Option (Claim Stage)) (c : ℕ) → slice_index ws c ≡ word_at s c →
    passes (at c) r ≡ false → passes (at c) (record_of s i) ≡ false → Same central s (changed s ws i r) c
same_bin s ws i r c w p q =
    record {
      askers = same_askers s ws i r c p q;
      leaving = λ j. refl;
      inside = same_inside s ws i r c p q entered;
      age = ap age_of w;
      calm = ap unlocked w;
      mark = w;
      line = refl;
    }

-- a stage before the entry
no_entry :
    (s : State) (i b : ℕ) (g : Stage) → entered g ≡ false → holds s b i ≡ false → NoEntry central s (staged s i b g) b
no_entry s i b g f h =
    record {
      inside =
          let e = and_right (b == b) (entered g) f ∙ sym h in
          found_set (at_stage entered b) 0 s.memory.records i (Some (claim b g)) e;
      age = refl;
      leaving = λ j. refl;
    }

-- ASK
pub ask_effect :
    (s : State) (i b : ℕ) → Invariant s → joined (asks s i b).answer ≡ true → AskEffect central s (asks s i b).after i b
ask_effect s i b I = go (asks s i b) (ask_view s i b) refl
  where
    go :
        (o : Outcome AskAnswer State) → AskView s i b o → asks s i b ≡ o → joined o.answer ≡ true →
        AskEffect central s o.after i b
    go o (ask_refused f) e h = absurd (false≢true h)
    go o (ask_joins q) e h =
        let g : Stage = after_look (word_at s b) in
        let l = record_there s i I q.admitted.session in
        record {
          joins = λ j. passes_join (at b) s.memory.records i (claim b g) j l (eq-eqb b b refl);
          in_enters = λ a. cc;
          not_yet_enters_nobody =
              λ a. no_entry s i b g (look_outside (word_at s b)) (ap (passes (at_stage entered b)) q.read);
          other_bins_keep_all =
              λ c _ n.
              let new : passes (at c) (Some (claim b g)) ≡ false = ne_eqb b c (λ x. n (sym x)) in
              same_bin s s.memory.words i (Some (claim b g)) c refl new (ap (passes (at c)) q.read);
        }

-- PUSH
-- a word that is locked has the next age
next_age : (w : ℕ) → w < lock_bit → age_of (locked w) ≡ (age_of w + 1) % lock_bit
next_age w l =
    let e = age_unlocked w l in
    let f = age_locked (locked w) (omega arith) in
    omega arith

module _ (s : State) (i b : ℕ) (I : Invariant s) where
  -- the answer out is never given
  push_never_out : (o : Outcome PushAnswer State) → PushView s i b o → o.answer ≢ Ok Out
  push_never_out o (push_refused f) a = cc
  push_never_out o push_waits a = cc
  push_never_out o (push_moves c g q eb eo es ei) a = cc
  push_never_out o (push_enters c q eb eo l) a = cc

  push_waiting : (o : Outcome PushAnswer State) → PushView s i b o → o.answer ≡ Ok Waits → o.after ≡ s
  push_waiting o (push_refused f) a = refl
  push_waiting o push_waits a = refl
  push_waiting o (push_moves c g q eb eo es ei) a = cc
  push_waiting o (push_enters c q eb eo l) a = cc

  push_moving : (o : Outcome PushAnswer State) → PushView s i b o → o.answer ≡ Ok Moved → NoEntry central s o.after b
  push_moving o (push_refused f) a = cc
  push_moving o push_waits a = cc
  push_moving o (push_moves c g q eb eo es ei) a = no_entry s i b g ei (outside s i c q.read eo b)
  push_moving o (push_enters c q eb eo l) a = cc

  push_entering : (o : Outcome PushAnswer State) → PushView s i b o → o.answer ≡ Ok In → Entry central s o.after i b
  push_entering o (push_refused f) a = cc
  push_entering o push_waits a = cc
  push_entering o (push_moves c g q eb eo es ei) a = cc
  push_entering o (push_enters c q eb eo l) a =
      let hi = q.admitted.session in
      let hb = q.admitted.bin in
      let w = locked (word_at s b) in
      let r : Option (Claim Stage) = Some (claim b Inside) in
      let t = with_both s b w i r in
      record {
        nobody_inside = none_inside s b (no_holder (word_at s b) (holds s b) (I.bin b hb) l);
        not_leaving = refl;
        inside =
            let J : Invariant t = entry_invariant s i b I hi hb (outside s i c q.read eo) l in
            let e : record_of t i ≡ r = get_or-set_same s.memory.records i r None (record_there s i I hi) in
            holds_inside t b i J hb (claim_holds t i b (claim b Inside) e refl refl);
        age = ap age_of (own_word_is s b w i r I hi hb) ∙ next_age (word_at s b) l;
        leaving = λ j. refl;
      }

  -- all askers stay
  push_askers : (o : Outcome PushAnswer State) → PushView s i b o → (j : ℕ) → askers o.after b j ≡ askers s b j
  push_askers o (push_refused f) j = refl
  push_askers o push_waits j = refl
  push_askers o (push_moves c g q eb eo es ei) j =
      let e = eq-eqb b b refl ∙ sym (claim_asker s b i c q.read eb) in
      passes_set (at b) s.memory.records i (Some (claim b g)) j e
  push_askers o (push_enters c q eb eo l) j =
      let e = eq-eqb b b refl ∙ sym (claim_asker s b i c q.read eb) in
      passes_set (at b) s.memory.records i (Some (claim b Inside)) j e

  push_elsewhere : (o : Outcome PushAnswer State) → PushView s i b o → (c : ℕ) → (c ≢ b) → Same central s o.after c
  push_elsewhere o (push_refused f) d n = same_self central s d
  push_elsewhere o push_waits d n = same_self central s d
  push_elsewhere o (push_moves c g q eb eo es ei) d n =
      let old = at_no_other (record_of s i) c b d q.read eb n in
      same_bin s s.memory.words i (Some (claim b g)) d refl (ne_eqb b d (λ x. n (sym x))) old
  push_elsewhere o (push_enters c q eb eo l) d n =
      let w = locked (word_at s b) in
      let e = get_or-set_other s.memory.words b d w 0 n in
      let old = at_no_other (record_of s i) c b d q.read eb n in
      same_bin s (slice_set s.memory.words b w) i (Some (claim b Inside)) d e (ne_eqb b d (λ x. n (sym x))) old

  pub push_effect : PushEffect central s (pushes s i b).after i b
  push_effect =
      let o = pushes s i b in
      let v = push_view s i b in
      record {
        waits_alters_nothing = λ a. push_waiting o v a;
        waits_keeps_all = λ a c. subst (λ t. Same central s t c) (sym (push_waiting o v a)) (same_self central s c);
        moved_enters_nobody = push_moving o v;
        in_enters = push_entering o v;
        out_had_left = λ a. absurd (push_never_out o v a);
        out_keeps_inside = λ a. absurd (push_never_out o v a);
        out_keeps_age = λ a. absurd (push_never_out o v a);
        out_takes_off = λ a. absurd (push_never_out o v a);
        out_ends_leaving = λ a. absurd (push_never_out o v a);
        others_stay = λ _. push_askers o v;
        other_bins_keep_all = λ c _. push_elsewhere o v c;
      }

-- LEAVE
pub leave_effect :
    (s : State) (i b : ℕ) → Invariant s → is_ok (leaves s i b).answer ≡ true →
    LeaveEffect central s (leaves s i b).after i b
leave_effect s i b I = go (leaves s i b) (leave_view s i b) refl
  where
    go :
        (o : Outcome LeaveAnswer State) → LeaveView s i b o → leaves s i b ≡ o → is_ok o.answer ≡ true →
        LeaveEffect central s o.after i b
    go o (leave_refused f) e h = absurd (false≢true h)
    go o (leave_exits c q eb ei) e h =
        let hi = q.admitted.session in
        let hb = q.admitted.bin in
        let w = released (word_at s b) in
        let t = with_both s b w i None in
        let J : Invariant t = exit_invariant s i b c I hi hb q.read eb ei in
        let k : word_at t b ≡ w = own_word_is s b w i None I hi hb in
        let l = (one_holder (word_at s b) (holds s b) i (I.bin b hb) (claim_holds s i b c q.read eb ei)).0 in
        record {
          nobody_inside = none_inside t b (no_holder (word_at t b) (holds t b) (J.bin b hb) (omega arith));
          keeps_age = ap age_of k ∙ age_unlocked w (omega arith) ∙ sym (age_locked (word_at s b) l);
          out_takes_off = λ a j. passes_drop (at b) s.memory.records i j (record_there s i I hi);
          out_leaves_nobody = λ a j. refl;
          moved_stays_asker = λ a. cc;
          moved_is_leaving = λ a. cc;
          other_bins_keep_all =
              λ d _ n.
              let x = get_or-set_other s.memory.words b d w 0 n in
              same_bin s (slice_set s.memory.words b w) i None d x refl (at_no_other (record_of s i) c b d q.read eb n);
        }
