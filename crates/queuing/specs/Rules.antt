-- When each call at a state with the invariant is refused, with which fault, and when it is granted.
use Rattle.std.specs.Prelude.{◌≡◌, ℕ, ◌<◌, ◌≤◌, Bool, true, false, cond, List, [], ◌∷◌, ◌++◌, length, is_ok, Some, None, Ok, Err, Option, ◌≢◌, refl}
use Rattle.std.proofs.Common.{inl, inr, sym, ap, subst, ◌∙◌, arith}
use Rattle.std.proofs.lemmas.List.{append_assoc, length-append}
use Rattle.std.proofs.lemmas.Bool.{eq-eqb, lt-ltb, true≢false, cond_both, false_from_ne_true}
use Rattle.std.proofs.lemmas.Option.{same_Some}
use Rattle.bank.specs.Claims.{passes, at, askers, claim}
use Rattle.bank.specs.Laws.{AskRule, PushRule, LeaveRule, PeekRule, AheadRule}
use Rattle.bank.specs.Locks.{word_at, record_of, node_of}
use Rattle.bank.specs.Memory.{stage_at}
use Rattle.bank.specs.Outcome.{Outcome}
use Rattle.bank.specs.Refusals.{no_session, no_bin, out_of_turn}
use Rattle.bank.specs.declared.answers.PushAnswer.{PushAnswer}
use Rattle.bank.specs.declared.memory.Claim.{Claim}
use Rattle.bank.proofs.Admission.{session_missing, session_there, bin_missing, bin_there, own_no_session, own_no_bin, own_there}
use Rattle.bank.proofs.Askers.{no_claim}
use Rattle.bank.proofs.Claims.{asker_claim, inside_claim}
use Rattle.queuing.specs.declared.Stage.{Stage}
use Rattle.queuing.specs.declared.Stage.TheVariants.{Link, See, Close, Inside, Try, Open, Await, Hand}
use Rattle.queuing.specs.declared.word.Word.{Word}
use Rattle.queuing.specs.declared.word.Word.TheVariants.{Free, Held, Window}
use Rattle.queuing.specs.Actions.{exchange, see_own, try_word, look_own, await_own}
use Rattle.queuing.specs.Calls.{pushes, pushes_at, pushes_own, leaves, counts, counted}
use Rattle.queuing.specs.Meaning.{inside, line}
use Rattle.queuing.specs.State.{State, sessions_of, bins_of, entered, own_record, own_stage, lawful, lawful_word, own_version}
use Rattle.queuing.specs.Word.{held_by, versions}
use Rattle.queuing.specs.Invariant.{Bin, Invariant, member_there, short, said_is, line_is}
use Rattle.queuing.specs.Kind.{queuing}
use Rattle.queuing.specs.Lines.{In, last_push, middle_in}
use Rattle.queuing.specs.Meanings.{claim_is, Leader, leads, versioned_leads, some_leader, leader_inside, calm_told}
use Rattle.queuing.specs.Queue.{in_asks}
use Rattle.queuing.specs.Steps.{links_to_member}
use Rattle.queuing.specs.Stages.{only_inside, entered_forgets}
use Rattle.queuing.specs.Views.{At}
use Rattle.queuing.specs.Walk.{counted_is}
use Rattle.queuing.specs.Ways.{leader_at, next_second}

-- WHAT IS READ is in its range
module _ {s : State} (I : Invariant s) where
  session_missed : (i b : ℕ) → sessions_of s ≤ i → own_record s i b ≡ Err (no_session i)
  session_missed i b h = own_no_session (sessions_of s) s.bank.sizes s.memory i b I.fit h

  bin_missed : (i b : ℕ) → i < sessions_of s → bins_of s ≤ b → own_record s i b ≡ Err (no_bin b)
  bin_missed i b h k = own_no_bin (sessions_of s) s.bank.sizes s.memory i b I.fit h k

  own_is : (i b : ℕ) → i < sessions_of s → b < bins_of s → own_record s i b ≡ Ok (record_of s i)
  own_is i b h k = own_there (sessions_of s) s.bank.sizes s.memory i b I.fit h k (I.ranged i)

  word_is : (b : ℕ) (k : b < bins_of s) → lawful_word s b ≡ Ok (I.bin b k).0
  word_is b k = ap (λ w. lawful w b) (said_is I (I.bin b k).2)

-- the stage of one who asks at the bin, once the record is read
stage_is :
    (s : State) (i b : ℕ) (g : Stage) → own_record s i b ≡ Ok (record_of s i) → record_of s i ≡ Some (claim b g) →
    own_stage s i b ≡ Ok g
stage_is s i b g o e = rw (o, e, eq-eqb b b refl)

-- and of one who does not
stranger_is :
    (s : State) (i b : ℕ) → own_record s i b ≡ Ok (record_of s i) → askers s b i ≡ false →
    own_stage s i b ≡ Err (out_of_turn i)
stranger_is s i b o n = rw o (go (record_of s i) n)
  where
    go : (r : Option (Claim Stage)) → passes (at b) r ≡ false → stage_at (Ok r) i b ≡ Err (out_of_turn i)
    go None e = refl
    go (Some c) e = rw e

version_is :
    {s : State} {b i v : ℕ} {w : Word} {rest : List ℕ} {g : Stage} → Leader s b w i rest g v → own_version s i ≡ Ok v
version_is {v = v} L = rw (L.first.holds, lt-ltb v versions L.first.below)

-- the next of a leader is the node of a session in line
next_there :
    {s : State} {b i q v : ℕ} {w : Word} {rest : List ℕ} {g : Stage} → Invariant s → Leader s b w i rest g v →
    (node_of s i).next ≡ Some q → q < sessions_of s
next_there {i = i} {q = q} {rest = rest} I L e =
    let n = next_second L.first.chain e in
    member_there I L.bin q (subst (λ l. In q (i ∷ l)) (sym n.1) (inr (inl refl)))

-- whoever has entered a bin is the one inside
entered_inside :
    {s : State} {b i : ℕ} {g : Stage} → Invariant s → b < bins_of s → record_of s i ≡ Some (claim b g) →
    entered g ≡ true → inside s b ≡ Some i
entered_inside {s} {b} {i} {g} I k e h =
    let D = I.bin b k in
    let L = leads D.1 D.2 e (entered_forgets g h) in
    leader_inside g L.3 ∙ ap (λ t. cond t (Some i) None) h

-- ASK
exchanged : (w : Word) (s : State) (i b : ℕ) → is_ok (exchange w s i b).answer ≡ true
exchanged (Free v) s i b = refl
exchanged (Held p) s i b = refl
exchanged (Window p v) s i b = refl

pub ask_rule : (s : State) (i b : ℕ) → Invariant s → AskRule queuing s i b
ask_rule s i b I =
    record {
      no_session = λ h. rw (session_missed I i b h);
      no_bin = λ h k. rw (bin_missed I i b h k);
      asker = λ h k c l e. rw (own_is I i b h k, word_is I b k, (asker_claim s c i e).1);
      granted =
          λ h k n.
          rw (own_is I i b h k, word_is I b k, no_claim s (bins_of s) i (I.ranged i) n) (exchanged (I.bin b k).0 s i b);
    }

-- PUSH
-- granted to a session that asks and is not inside
module _ {s : State} {i b : ℕ} (I : Invariant s) where
  seen : (p : ℕ) → At s i b (See p) → (x : Option ℕ) → (node_of s i).version ≡ x → is_ok (see_own x s i b).answer ≡ true
  seen p a None e = refl
  seen p a (Some v) e =
      let D = I.bin b a.admitted.bin in
      let M = versioned_leads D.1 v D.2 a.read e in
      let same = same_Some M.1 v (sym M.3.first.holds ∙ e) in
      rw (lt-ltb v versions (subst (λ x. x < versions) same M.3.first.below))

  awaited : At s i b Await → (x : Option ℕ) → (node_of s i).next ≡ x → is_ok (await_own x s i b).answer ≡ true
  awaited a None e = refl
  awaited a (Some q) e = rw (lt-ltb q (sessions_of s) (next_there I (leader_at I a refl).3 e))

  tried : At s i b Try → (w : Word) → is_ok (try_word (Ok w) s i b).answer ≡ true
  tried a w =
      let L = (leader_at I a refl).3 in
      rw (version_is L)
      (cond_both (held_by w i) _ _ (λ (o : Outcome PushAnswer State). is_ok o.answer ≡ true) (λ e. refl) (λ e. refl))

  push_granted : (g : Stage) → At s i b g → entered g ≡ false → is_ok (pushes_at g s i b).answer ≡ true
  push_granted (Link p) a n =
      let D = I.bin b a.admitted.bin in
      let L = (some_leader D.1 i (Link p) D.2 a.read).4 in
      rw (lt-ltb p (sessions_of s) (member_there I L.bin p (links_to_member a L)))
  push_granted (See p) a n = seen p a (node_of s i).version refl
  push_granted Close a n = rw (word_is I b a.admitted.bin)
  push_granted Inside a n = absurd (true≢false n)
  push_granted Try a n = rw (word_is I b a.admitted.bin) (tried a (I.bin b a.admitted.bin).0)
  push_granted Open a n = rw (word_is I b a.admitted.bin, version_is (leader_at I a refl).3)
  push_granted Await a n = awaited a (node_of s i).next refl
  push_granted Hand a n =
      let L = (leader_at I a refl).3 in
      let k = L.first.leads in
      rw (k.3, lt-ltb k.0 (sessions_of s) (next_there I L k.3), version_is L)

-- a push of one who asks at the bin goes by its stage
push_by_stage :
    (s : State) (i b : ℕ) (g : Stage) → own_record s i b ≡ Ok (record_of s i) → record_of s i ≡ Some (claim b g) →
    pushes s i b ≡ pushes_at g s i b
push_by_stage s i b g o e = ap (λ r. pushes_own r s i b) (stage_is s i b g o e)

push_stranger :
    (s : State) (i b : ℕ) → own_record s i b ≡ Ok (record_of s i) → askers s b i ≡ false →
    (pushes s i b).answer ≡ Err (out_of_turn i)
push_stranger s i b o n = ap (λ r. (pushes_own r s i b).answer) (stranger_is s i b o n)

push_inside : (s : State) (i b : ℕ) (g : Stage) → entered g ≡ true → (pushes_at g s i b).answer ≡ Err (out_of_turn i)
push_inside s i b g e = ap (λ h. (pushes_at h s i b).answer) (only_inside g e)

pub push_rule : (s : State) (i b : ℕ) → Invariant s → PushRule queuing s i b
push_rule s i b I =
    record {
      no_session = λ h. rw (session_missed I i b h);
      no_bin = λ h k. rw (bin_missed I i b h k);
      stranger = λ h k n. push_stranger s i b (own_is I i b h k) n;
      inside =
          λ h k e.
          let c = inside_claim entered s b i e in
          let g = c.0.stage in
          rw (push_by_stage s i b g (own_is I i b h k) (c.1 ∙ claim_is c.0 c.2)) (push_inside s i b g c.3);
      granted =
          λ h k e n.
          let c = asker_claim s b i e in
          let g = c.0.stage in
          let r = c.1 ∙ claim_is c.0 c.2 in
          let a : At s i b g = record { admitted = record { fit = I.fit; session = h; bin = k }; read = r } in
          let out = false_from_ne_true (entered g) (λ t. n (entered_inside I k r t)) in
          rw (push_by_stage s i b g (own_is I i b h k) r) (push_granted I g a out);
    }

-- LEAVE
looked :
    {s : State} {i b : ℕ} → Invariant s → At s i b Inside → (x : Option ℕ) → (node_of s i).next ≡ x →
    is_ok (look_own x s i b).answer ≡ true
looked I a None e = refl
looked {s} I a (Some q) e = rw (lt-ltb q (sessions_of s) (next_there I (leader_at I a refl).3 e))

pub leave_rule : (s : State) (i b : ℕ) → Invariant s → LeaveRule queuing s i b
leave_rule s i b I =
    record {
      no_session = λ h. rw (session_missed I i b h);
      no_bin = λ h k. rw (bin_missed I i b h k);
      not_inside = λ h k n. not_inside k (own_is I i b h k) n (askers s b i) refl;
      granted =
          λ h k e.
          let c = inside_claim entered s b i e in
          let r = c.1 ∙ claim_is c.0 c.2 ∙ ap (λ g. Some (claim b g)) (only_inside c.0.stage c.3) in
          let a : At s i b Inside = record { admitted = record { fit = I.fit; session = h; bin = k }; read = r } in
          rw (stage_is s i b Inside (own_is I i b h k) r) (looked I a (node_of s i).next refl);
    }
  where
    not_inside :
        b < bins_of s → own_record s i b ≡ Ok (record_of s i) → (inside s b ≢ Some i) → (t : Bool) → askers s b i ≡ t →
        (leaves s i b).answer ≡ Err (out_of_turn i)
    not_inside k o n false e = rw (stranger_is s i b o e)
    not_inside k o n true e =
        let c = asker_claim s b i e in
        let r = c.1 ∙ claim_is c.0 c.2 in
        rw (stage_is s i b c.0.stage o r, false_from_ne_true (entered c.0.stage) (λ p. n (entered_inside I k r p)))

pub peek_rule : (s : State) (b : ℕ) → Invariant s → PeekRule queuing s b
peek_rule s b I =
    record {
      no_bin = λ h. rw (bin_missing (sessions_of s) s.bank.sizes s.memory b I.fit h);
      granted =
          λ h.
          rw (bin_there (sessions_of s) s.bank.sizes s.memory b I.fit h, word_is I b h)
          (ap (λ t. Ok (word_at s b, t)) (sym (calm_told I (I.bin b h).2)));
    }

-- AHEAD
module _ {s : State} {b : ℕ} {w : Word} (I : Invariant s) (i : ℕ) where
  -- session i stands behind front
  counted_front :
      (front rest : List ℕ) → Bin s b w (front ++ (i ∷ rest)) →
      counted (sessions_of s) s i i 0 ≡ Ok (Some (length front))
  counted_front [] rest B =
      let F = B.stands.queue.2 in
      let h = short I B in
      counted_is s i [] rest F.chain F.holds F.below (member_there I B) (omega arith) refl
  counted_front (f ∷ fs) rest B =
      let C : Bin s b w (f ∷ ((fs ++ (i ∷ [])) ++ rest)) =
      subst (λ l. Bin s b w (f ∷ l)) (sym (append_assoc fs (i ∷ []) rest)) B in
      let F = C.stands.queue.2 in
      let h = short I C in
      let n = length-append (fs ++ (i ∷ [])) rest in
      let m = length-append fs (i ∷ []) in
      counted_is s i (fs ++ (i ∷ [])) rest F.chain F.holds F.below (member_there I C) (omega arith) (last_push f fs i)
      ∙ ap (λ x. Ok (Some x)) (omega arith)

pub ahead_rule : (s : State) (i : ℕ) → Invariant s → AheadRule queuing s i
ahead_rule s i I =
    record {
      no_session = λ h. rw (session_missing (sessions_of s) s.bank.sizes s.memory i I.fit h);
      in_no_line =
          λ h n.
          rw
          (session_there (sessions_of s) s.bank.sizes s.memory i I.fit h, no_claim s (bins_of s) i (I.ranged i) n);
      without_lines = λ f. absurd (true≢false f);
      those_before = λ f h b front rest k e. before h b front rest k e;
    }
  where
    before :
        i < sessions_of s → (b : ℕ) (front rest : List ℕ) → b < bins_of s → line s b ≡ front ++ (i ∷ rest) →
        counts s i ≡ Ok (Some (length front))
    before h b front rest k e =
        let D = I.bin b k in
        let B : Bin s b D.0 (front ++ (i ∷ rest)) = subst (Bin s b D.0) (sym (line_is I D.2) ∙ e) D.2 in
        let c = asker_claim s b i (in_asks B.stands i (middle_in i front rest)) in
        let l = lt-ltb c.0.bin (bins_of s) (subst (λ x. x < bins_of s) (sym c.2) k) in
        rw (session_there (sessions_of s) s.bank.sizes s.memory i I.fit h, c.1, l) (counted_front I i front rest B)
