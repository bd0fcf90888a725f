-- What a granted ask, push and leave do, as the laws put it.
use Rattle.std.specs.Prelude.{◌≡◌, ℕ, ◌<◌, ◌≤◌, true, false, ◌&&◌, List, [], ◌∷◌, ◌++◌, is_ok, Some, Ok, Option, ◌≢◌, refl}
use Rattle.std.proofs.Common.{sym, ap, subst, ◌∙◌, arith}
use Rattle.std.proofs.lemmas.Bool.{false≢true, true≢false, eq-eqb}
use Rattle.bank.specs.Claims.{passes, at, at_stage, claim}
use Rattle.bank.specs.Kind.{joined}
use Rattle.bank.specs.Laws.{AskEffect, PushEffect, LeaveEffect, NoOtherNeedsMore, FairAsk, FairPush, FairLeave}
use Rattle.bank.specs.Locks.{record_of, node_of}
use Rattle.bank.specs.Outcome.{Outcome}
use Rattle.bank.specs.declared.answers.AskAnswer.{AskAnswer}
use Rattle.bank.specs.declared.answers.AskAnswer.TheVariants.{In as EntersAtOnce, NotYet}
use Rattle.bank.specs.declared.answers.LeaveAnswer.{LeaveAnswer}
use Rattle.bank.specs.declared.answers.LeaveAnswer.TheVariants.{Moved as StillLeaving}
use Rattle.bank.specs.declared.answers.PushAnswer.{PushAnswer}
use Rattle.bank.specs.declared.answers.PushAnswer.TheVariants.{Waits, Moved, In, Out}
use Rattle.bank.specs.declared.memory.Claim.{Claim}
use Rattle.bank.proofs.Claims.{some_none}
use Rattle.bank.proofs.Effects as effects
use Rattle.bank.proofs.Itself.{same_self}
use Rattle.queuing.specs.declared.Stage.{Stage}
use Rattle.queuing.specs.declared.Stage.TheVariants.{Link, See, Close, Inside, Await}
use Rattle.queuing.specs.Calls.{asks, pushes, leaves}
use Rattle.queuing.specs.Meaning.{leaving, line, needed_by, needed_at}
use Rattle.queuing.specs.State.{State, has_left}
use Rattle.queuing.specs.Invariant.{Bin, Invariant, line_is}
use Rattle.queuing.specs.Kind.{queuing}
use Rattle.queuing.specs.Meanings.{leads}
use Rattle.queuing.specs.Queue.{Behind, to_link, linked, Chain, chain_parts, at_itself, passes_stay, passes_added, passes_removed}
use Rattle.queuing.specs.Steps.{Step}
use Rattle.queuing.specs.Views.{ask_view, push_view, leave_view}
use Rattle.queuing.specs.Ways.{JoinsFirst, JoinsLast, Asked, asked, refused_ask, joins_first, joins_last, Moves, Enters, Exits, Waiting, for_version, for_next, Pushed, pushed, refused_push, waits, moves, enters, exits, Leaves, Left, left, refused_leave, leaves as leaves_on}

-- a claim at bin b has left it exactly if its stage says so
left_at : (b : ℕ) (g : Stage) → passes (at_stage has_left b) (Some (claim b g)) ≡ has_left g
left_at b g = ap (λ t. t && has_left g) (eq-eqb b b refl)

no_more : {p q : ℕ} → p ≡ q → p ≤ q
no_more e = omega arith

answered : {A : Type 0} {o p : Outcome A State} → o ≡ p → o.answer ≡ p.answer
answered {A} e = ap (λ (x : Outcome A State). x.answer) e

-- the others need as many pushes as before
module _ {s t : State} {i b : ℕ} {r : Option (Claim Stage)} (k : Step s t i b r) where
  others_need : NoOtherNeedsMore queuing s t i
  others_need j n = no_more (ap needed_by (k.own.other j n))

  own_needs : needed_by (record_of t i) ≡ needed_by r
  own_needs = ap needed_by k.own.at

-- ASK
module _ {s t : State} {i b : ℕ} where
  first_effect : (asks s i b).answer ≡ Ok EntersAtOnce → JoinsFirst s t i b → AskEffect queuing s t i b
  first_effect a j =
      let own = j.step.own in
      let none = ap (passes (at_stage has_left b)) j.unclaimed in
      effects.ask_enters queuing s t i b a
      (passes_added own (at b) (at_itself b Inside))
      (record {
        nobody_inside = j.nobody;
        not_leaving = none;
        inside = j.inside;
        age = j.age;
        leaving = passes_stay own (at_stage has_left b) (left_at b Inside ∙ sym none);
      })
      j.step.same

  last_effect : (asks s i b).answer ≡ Ok NotYet → JoinsLast s t i b → AskEffect queuing s t i b
  last_effect a j =
      let own = j.step.own in
      let none = ap (passes (at_stage has_left b)) j.unclaimed in
      effects.ask_lines_up queuing s t i b a
      (passes_added own (at b) (at_itself b (Link j.node)))
      (record {
        inside = j.inside;
        age = j.age;
        leaving = passes_stay own (at_stage has_left b) (left_at b (Link j.node) ∙ sym none);
      })
      j.step.same

  first_fair : (asks s i b).answer ≡ Ok EntersAtOnce → JoinsFirst s t i b → FairAsk queuing s t i b
  first_fair a j =
      record {
        lines_up_last = j.line ∙ ap (λ l. l ++ (i ∷ [])) (sym j.empty);
        empty_line_enters = λ e. a;
        others_enter_later = λ n. absurd (n j.empty);
        few_pushes_needed = let e = own_needs j.step in omega arith;
        no_other_needs_more = others_need j.step;
      }

  last_fair : (asks s i b).answer ≡ Ok NotYet → JoinsLast s t i b → FairAsk queuing s t i b
  last_fair a j =
      record {
        lines_up_last = j.line ∙ ap (λ l. l ++ (i ∷ [])) (sym j.before);
        empty_line_enters = λ e. absurd (some_first (sym j.before ∙ e));
        others_enter_later = λ n. a;
        few_pushes_needed = let e = own_needs j.step in omega arith;
        no_other_needs_more = others_need j.step;
      }
    where
      some_first : {f : ℕ} {rest : List ℕ} → f ∷ rest ≢ []
      some_first e = let z : ◌≡◌ {A = ℕ} 0 1 = cc in omega arith

pub ask_laws :
    (s : State) (i b : ℕ) → Invariant s → joined (asks s i b).answer ≡ true →
    AskEffect queuing s (asks s i b).after i b × FairAsk queuing s (asks s i b).after i b
ask_laws s i b I = go (asks s i b) (asked I (ask_view s i b)) refl
  where
    go :
        (o : Outcome AskAnswer State) → Asked s i b o → asks s i b ≡ o → joined o.answer ≡ true →
        AskEffect queuing s o.after i b × FairAsk queuing s o.after i b
    go o (refused_ask f) e h = absurd (false≢true h)
    go o (joins_first j) e h = (first_effect (answered e) j, first_fair (answered e) j)
    go o (joins_last j) e h = (last_effect (answered e) j, last_fair (answered e) j)

-- PUSH
module _ {s t : State} {i b : ℕ} where
  -- the session asks at the bin before and after
  stays_asking :
      {g h : Stage} → record_of s i ≡ Some (claim b g) → Step s t i b (Some (claim b h)) →
      effects.AskersStay queuing s t i b
  stays_asking {g} {h} e k =
      passes_stay k.own (at b) (at_itself b h ∙ sym (ap (passes (at b)) e ∙ at_itself b g))

  -- and has left before where it has left after
  stays_left :
      {g h : Stage} → record_of s i ≡ Some (claim b g) → Step s t i b (Some (claim b h)) → has_left h ≡ has_left g →
      (j : ℕ) → leaving t b j ≡ leaving s b j
  stays_left {g} {h} e k l =
      passes_stay k.own (at_stage has_left b)
      (left_at b h ∙ l ∙ sym (ap (passes (at_stage has_left b)) e ∙ left_at b g))

  moves_effect :
      (g h : Stage) → (pushes s i b).answer ≡ Ok Moved → Moves s t i b g h → has_left h ≡ has_left g →
      PushEffect queuing s t i b
  moves_effect g h a m l =
      effects.push_moves queuing s t i b a
      (record { inside = m.inside; age = m.age; leaving = stays_left m.read m.step l })
      (stays_asking m.read m.step)
      m.step.same

  moves_fair :
      (g h : Stage) → (pushes s i b).answer ≡ Ok Moved → Moves s t i b g h → needed_at h < needed_at g →
      FairPush queuing s t i b
  moves_fair g h a m l =
      let old = ap needed_by m.read in
      let new = own_needs m.step in
      effects.fair_advances queuing s t i b Moved (λ e. cc) (λ e. cc) a (omega arith) (others_need m.step) m.line

  enters_effect : (pushes s i b).answer ≡ Ok In → Enters s t i b Close → PushEffect queuing s t i b
  enters_effect a m =
      effects.push_enters queuing s t i b a
      (record {
        nobody_inside = m.nobody;
        not_leaving = ap (passes (at_stage has_left b)) m.read ∙ left_at b Close;
        inside = m.inside;
        age = m.age;
        leaving = stays_left m.read m.step refl;
      })
      (stays_asking m.read m.step)
      m.step.same

  enters_fair : (pushes s i b).answer ≡ Ok In → Enters s t i b Close → FairPush queuing s t i b
  enters_fair a m =
      let old = ap needed_by m.read in
      let new = own_needs m.step in
      effects.fair_advances queuing s t i b In (λ e. cc) (λ e. cc) a (omega arith) (others_need m.step) m.line

  exits_effect :
      (g : Stage) → (pushes s i b).answer ≡ Ok Out → Exits s t i b g → has_left g ≡ true → PushEffect queuing s t i b
  exits_effect g a m l =
      effects.push_exits queuing s t i b a
      (record {
        had_left = ap (passes (at_stage has_left b)) m.read ∙ left_at b g ∙ l;
        inside = m.inside;
        age = m.age;
        askers = passes_removed m.step.own (at b) refl;
        leaving = passes_removed m.step.own (at_stage has_left b) refl;
      })
      m.step.same

  exits_fair :
      (g : Stage) → (pushes s i b).answer ≡ Ok Out → Exits s t i b g → 0 < needed_at g → FairPush queuing s t i b
  exits_fair g a m l =
      let old = ap needed_by m.read in
      let new = own_needs m.step in
      effects.fair_exits queuing s t i b a (omega arith) (others_need m.step) m.line

-- a session about to link does not wait
link_moves :
    (s : State) (i b p : ℕ) → Invariant s → record_of s i ≡ Some (claim b (Link p)) →
    (pushes s i b).answer ≢ Ok Waits
link_moves s i b p I r = go (pushes s i b) (pushed I (push_view s i b))
  where
    needs : {g : Stage} → record_of s i ≡ Some (claim b g) → needed_at g ≡ 3
    needs e = sym (ap needed_by e) ∙ ap needed_by r

    go : (o : Outcome PushAnswer State) → Pushed s i b o → o.answer ≢ Ok Waits
    go o (refused_push f) a = cc
    go o (waits (for_version q x e)) a = omega (arith, needs x.read)
    go o (waits (for_next x e)) a = omega (arith, needs x.read)
    go o (moves g x m l n) a = cc
    go o (enters m) a = cc
    go o (exits g m l n) a = cc

module _ (s : State) (i b : ℕ) (I : Invariant s) where
  waits_fair : (pushes s i b).answer ≡ Ok Waits → Waiting s i b → FairPush queuing s s i b
  waits_fair a (for_version p x e) =
      effects.fair_waits queuing s s i b a (λ j n. no_more refl) refl not_first
      (λ l. absurd (true≢false (sym l ∙ ap (passes (at_stage has_left b)) x.read ∙ left_at b (See p))))
    where
      -- the first in line has a version
      not_first : (rest : List ℕ) → line s b ≡ i ∷ rest → leaving s b i ≢ false
      not_first rest q l =
          let D = I.bin b x.admitted.bin in
          let B = subst (Bin s b D.0) (sym (line_is I D.2) ∙ q) D.2 in
          some_none (node_of s i).version B.stands.queue.1 e B.stands.queue.2.holds
  waits_fair a (for_next x e) =
      effects.fair_waits queuing s s i b a (λ j n. no_more refl) refl
      (λ rest q l. true≢false (sym (ap (passes (at_stage has_left b)) x.read ∙ left_at b Await) ∙ l))
      (λ l. second)
    where
      -- the second in line is about to link
      second :
          (j : ℕ) × (rest : List ℕ) × (line s b ≡ i ∷ (j ∷ rest)) × ((pushes s j b).answer ≢ Ok Waits)
      second =
          let D = I.bin b x.admitted.bin in
          let M = leads D.1 D.2 x.read refl in
          let n = M.3.first.leads in
          let c : Chain (record_of s) (node_of s) b i (n.0 ∷ n.1) =
          subst (Chain (record_of s) (node_of s) b i) n.2 M.3.first.chain in
          (n.0, n.1, line_is I D.2 ∙ M.2 ∙ ap (λ r. i ∷ r) n.2, unlinked (chain_parts c).0)
        where
          unlinked : {q : ℕ} → Behind (record_of s) (node_of s) b i q → (pushes s q b).answer ≢ Ok Waits
          unlinked {q} (to_link r v n) = link_moves s q b i I r
          unlinked {q} (linked r v n) = some_none (node_of s i).next q e n

pub push_laws :
    (s : State) (i b : ℕ) → Invariant s → is_ok (pushes s i b).answer ≡ true →
    PushEffect queuing s (pushes s i b).after i b × FairPush queuing s (pushes s i b).after i b
push_laws s i b I = go (pushes s i b) (pushed I (push_view s i b)) refl
  where
    go :
        (o : Outcome PushAnswer State) → Pushed s i b o → pushes s i b ≡ o → is_ok o.answer ≡ true →
        PushEffect queuing s o.after i b × FairPush queuing s o.after i b
    go o (refused_push f) e h = absurd (false≢true h)
    go o (waits w) e h =
        (effects.push_waits queuing s s i b (answered e) refl (same_self queuing s), waits_fair s i b I (answered e) w)
    go o (moves g x m l n) e h = (moves_effect g x (answered e) m l, moves_fair g x (answered e) m n)
    go o (enters m) e h = (enters_effect (answered e) m, enters_fair (answered e) m)
    go o (exits g m l n) e h = (exits_effect g (answered e) m l, exits_fair g (answered e) m n)

-- LEAVE
module _ {s t : State} {i b : ℕ} (h : Stage) (a : (leaves s i b).answer ≡ Ok StillLeaving) (m : Leaves s t i b h) where
  leaves_effect : has_left h ≡ true → LeaveEffect queuing s t i b
  leaves_effect l =
      effects.leave_moves queuing s t i b a m.nobody m.age (stays_asking m.read m.step)
      (passes_added m.step.own (at_stage has_left b) (left_at b h ∙ l))
      m.step.same

  leaves_fair : needed_at h ≤ 4 → FairLeave queuing s t i b
  leaves_fair l =
      record {
        few_pushes_needed = let e = own_needs m.step in omega arith;
        no_other_needs_more = others_need m.step;
        line_stays = λ _. m.line;
        out_goes_first = λ e. cc;
      }

pub leave_laws :
    (s : State) (i b : ℕ) → Invariant s → is_ok (leaves s i b).answer ≡ true →
    LeaveEffect queuing s (leaves s i b).after i b × FairLeave queuing s (leaves s i b).after i b
leave_laws s i b I = go (leaves s i b) (left I (leave_view s i b)) refl
  where
    go :
        (o : Outcome LeaveAnswer State) → Left s i b o → leaves s i b ≡ o → is_ok o.answer ≡ true →
        LeaveEffect queuing s o.after i b × FairLeave queuing s o.after i b
    go o (refused_leave f) e h = absurd (false≢true h)
    go o (leaves_on x m l n) e h = (leaves_effect x (answered e) m l, leaves_fair x (answered e) m n)
