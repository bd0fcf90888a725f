-- When each call at a state with the invariant is refused, with which fault, and when it is granted.
use Rattle.std.specs.Prelude.{◌≡◌, ℕ, ◌<◌, Bool, true, false, if◌then◌else◌, ◌&&◌, is_ok, Some, None, Ok, Err, Option, ◌==◌, ◌≢◌, refl}
use Rattle.std.proofs.Common.{sym, ap, ◌∙◌}
use Rattle.std.proofs.lemmas.Bool.{eq-eqb, true≢false, false≢true, false_from_ne_true}
use Rattle.bank.specs.Claims.{passes, claim, at, at_stage, askers}
use Rattle.bank.specs.Laws.{AskRule, PushRule, LeaveRule, PeekRule, AheadRule}
use Rattle.bank.specs.Locks.{word_at, record_of, with_both}
use Rattle.bank.specs.Outcome.{granted}
use Rattle.bank.specs.Refusals.{out_of_turn}
use Rattle.bank.specs.declared.answers.PushAnswer.{PushAnswer}
use Rattle.bank.specs.declared.answers.PushAnswer.TheVariants.{Waits, Moved, In}
use Rattle.bank.specs.declared.memory.Claim.{Claim}
use Rattle.bank.proofs.Admission.{session_missing, session_there, bin_missing, bin_there, own_no_session, own_no_bin, own_there}
use Rattle.bank.proofs.Askers.{no_claim}
use Rattle.bank.proofs.Claims.{asker_claim, inside_claim}
use Rattle.central.specs.declared.Stage.{Stage}
use Rattle.central.specs.declared.Stage.TheVariants.{Look, Swap, Inside}
use Rattle.central.specs.Calls.{pushes, pushes_at, staged, leaves, leaves_own}
use Rattle.central.specs.Meaning.{inside}
use Rattle.central.specs.State.{State, sessions_of, bins_of, entered, own_record}
use Rattle.central.specs.Word.{unlocked, locked}
use Rattle.central.specs.Invariant.{Invariant, sound, sound_stage, claim_holds}
use Rattle.central.specs.Meanings.{holds_inside}
use Rattle.central.specs.Reachable.{central}

-- the caller's own record is read where the session and the bin are there
own_is :
    (s : State) (i b : ℕ) → Invariant s → i < sessions_of s → b < bins_of s → own_record s i b ≡ Ok (record_of s i)
own_is s i b I h k = own_there 0 s.bank.sizes s.memory i b I.fit h k (I.ranged i)

pub ask_rule : (s : State) (i b : ℕ) → Invariant s → AskRule central s i b
ask_rule s i b I =
    record {
      no_session = λ h. rw (own_no_session 0 s.bank.sizes s.memory i b I.fit h);
      no_bin = λ h k. rw (own_no_bin 0 s.bank.sizes s.memory i b I.fit h k);
      asker = λ h k c l e. rw (own_is s i b I h k, (asker_claim s c i e).1);
      granted = λ h k n. rw (own_is s i b I h k, no_claim s (bins_of s) i (I.ranged i) n);
    }

-- a push of one who asks at the bin goes by its stage
push_by_stage :
    (s : State) (i b : ℕ) (c : Claim Stage) → own_record s i b ≡ Ok (record_of s i) → record_of s i ≡ Some c →
    c.bin ≡ b → pushes s i b ≡ pushes_at c.stage s i b
push_by_stage s i b c o e q = rw (o, e, eq-eqb c.bin b q)

-- refused to one inside, granted to one outside whose remembered word is unlocked, refused to one not at the bin
push_inside : (s : State) (i b : ℕ) (g : Stage) → entered g ≡ true → (pushes_at g s i b).answer ≡ Err (out_of_turn i)
push_inside s i b Look e = absurd (false≢true e)
push_inside s i b (Swap w) e = absurd (false≢true e)
push_inside s i b Inside e = refl

-- one grant or another
either :
    (t : Bool) (s u : State) (x y : PushAnswer) → is_ok (if t then granted s x else granted u y).answer ≡ true
either true s u x y = refl
either false s u x y = refl

push_granted :
    (s : State) (i b : ℕ) (g : Stage) → sound_stage g ≡ true → entered g ≡ false →
    is_ok (pushes_at g s i b).answer ≡ true
push_granted s i b Look u e = either (unlocked (word_at s b)) (staged s i b (Swap (word_at s b))) s Moved Waits
push_granted s i b (Swap w) u e =
    rw u (either (word_at s b == w) (with_both s b (locked w) i (Some (claim b Inside))) (staged s i b Look) In Moved)
push_granted s i b Inside u e = absurd (true≢false e)

push_stranger :
    (s : State) (i b : ℕ) → own_record s i b ≡ Ok (record_of s i) → askers s b i ≡ false →
    (pushes s i b).answer ≡ Err (out_of_turn i)
push_stranger s i b o n = go (record_of s i) refl
  where
    go : (r : Option (Claim Stage)) → record_of s i ≡ r → (pushes s i b).answer ≡ Err (out_of_turn i)
    go None e = rw (o, e)
    go (Some c) e = let q : at b c ≡ false = sym (ap (passes (at b)) e) ∙ n in rw (o, e, q)

pub push_rule : (s : State) (i b : ℕ) → Invariant s → PushRule central s i b
push_rule s i b I =
    record {
      no_session = λ h. rw (own_no_session 0 s.bank.sizes s.memory i b I.fit h);
      no_bin = λ h k. rw (own_no_bin 0 s.bank.sizes s.memory i b I.fit h k);
      stranger = λ h k n. push_stranger s i b (own_is s i b I h k) n;
      inside =
          λ h k e.
          let w = inside_claim entered s b i e in
          rw (push_by_stage s i b w.0 (own_is s i b I h k) w.1 w.2) (push_inside s i b w.0.stage w.3);
      granted =
          λ h k e n.
          let w = asker_claim s b i e in
          let u : sound_stage w.0.stage ≡ true = sym (ap sound w.1) ∙ I.remembered i in
          let f = outside k n w.0 w.1 w.2 in
          rw (push_by_stage s i b w.0 (own_is s i b I h k) w.1 w.2) (push_granted s i b w.0.stage u f);
    }
  where
    outside :
        b < bins_of s → (inside s b ≢ Some i) → (c : Claim Stage) → record_of s i ≡ Some c → c.bin ≡ b →
        entered c.stage ≡ false
    outside k n c e q = false_from_ne_true (entered c.stage) (λ p. n (holds_inside s b i I k (claim_holds s i b c e q p)))

pub leave_rule : (s : State) (i b : ℕ) → Invariant s → LeaveRule central s i b
leave_rule s i b I =
    record {
      no_session = λ h. rw (own_no_session 0 s.bank.sizes s.memory i b I.fit h);
      no_bin = λ h k. rw (own_no_bin 0 s.bank.sizes s.memory i b I.fit h k);
      not_inside = λ h k n. not_inside k (own_is s i b I h k) n (record_of s i) refl;
      granted =
          λ h k e.
          let w = inside_claim entered s b i e in
          rw (own_is s i b I h k, w.1, eq-eqb w.0.bin b w.2, w.3);
    }
  where
    at_bin :
        (x : Bool) (g : Stage) → (x && entered g) ≡ false →
        (leaves_own (if x then Ok g else Err (out_of_turn i)) s i b).answer ≡ Err (out_of_turn i)
    at_bin false g q = refl
    at_bin true g q = rw q

    not_inside :
        b < bins_of s → own_record s i b ≡ Ok (record_of s i) → (inside s b ≢ Some i) →
        (r : Option (Claim Stage)) → record_of s i ≡ r → (leaves s i b).answer ≡ Err (out_of_turn i)
    not_inside k o n None e = rw (o, e)
    not_inside k o n (Some c) e =
        let q = false_from_ne_true (at_stage entered b c) (λ p. n (holds_inside s b i I k (ap (passes (at_stage entered b)) e ∙ p))) in
        rw (o, e) (at_bin (at b c) c.stage q)

pub peek_rule : (s : State) (b : ℕ) → Invariant s → PeekRule central s b
peek_rule s b I =
    record {
      no_bin = λ h. rw (bin_missing 0 s.bank.sizes s.memory b I.fit h);
      granted = λ h. rw (bin_there 0 s.bank.sizes s.memory b I.fit h);
    }

pub ahead_rule : (s : State) (i : ℕ) → Invariant s → AheadRule central s i
ahead_rule s i I =
    record {
      no_session = λ h. rw (session_missing 0 s.bank.sizes s.memory i I.fit h);
      in_no_line = λ h n. rw (session_there 0 s.bank.sizes s.memory i I.fit h);
      without_lines = λ _ h. rw (session_there 0 s.bank.sizes s.memory i I.fit h);
      those_before = λ f. absurd (false≢true f);
    }
