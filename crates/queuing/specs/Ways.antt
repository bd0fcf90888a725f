-- What each way of a call does to its bin, from a state with the invariant.
use Rattle.std.specs.Prelude.{◌≡◌, ℕ, ◌+◌, ◌-◌, ◌%◌, ◌<◌, ◌≤◌, true, false, cond, List, [], ◌∷◌, ◌++◌, Some, None, ◌≢◌, slice_set, refl}
use Rattle.std.proofs.Common.{sym, ap, subst, ◌∙◌, arith}
use Rattle.std.proofs.lemmas.Bool.{true≢false, false≢true, eqb-true, eq-eqb}
use Rattle.std.proofs.lemmas.Option.{same_Some}
use Rattle.bank.specs.Claims.{claim}
use Rattle.bank.specs.Locks.{word_at, record_of, node_of}
use Rattle.bank.specs.Outcome.{Outcome, granted, refused}
use Rattle.bank.specs.declared.answers.AskAnswer.{AskAnswer}
use Rattle.bank.specs.declared.answers.AskAnswer.TheVariants.{In as EntersAtOnce, NotYet}
use Rattle.bank.specs.declared.answers.LeaveAnswer.{LeaveAnswer}
use Rattle.bank.specs.declared.answers.LeaveAnswer.TheVariants.{Moved as StillLeaving}
use Rattle.bank.specs.declared.answers.PushAnswer.{PushAnswer}
use Rattle.bank.specs.declared.answers.PushAnswer.TheVariants.{Waits, Moved, In, Out}
use Rattle.bank.specs.declared.refusals.Fault.{Fault}
use Rattle.bank.proofs.Claims.{some_none}
use Rattle.queuing.specs.declared.Stage.{Stage}
use Rattle.queuing.specs.declared.Stage.TheVariants.{Link, See, Close, Inside, Try, Open, Await, Hand}
use Rattle.queuing.specs.declared.word.Word.{Word}
use Rattle.queuing.specs.declared.word.Word.TheVariants.{Free, Held, Window}
use Rattle.queuing.specs.Actions.{entered_at_once, lined_up, linked, shut, freed, window_opened, handed}
use Rattle.queuing.specs.Meaning.{inside, line, age, age_at, needed_at, said}
use Rattle.queuing.specs.State.{State, bins_of, staged, entered, has_left, remembered}
use Rattle.queuing.specs.Word.{packed, closed, opened, held_by, next_version, versions}
use Rattle.queuing.specs.Invariant.{Bin, Invariant, said_is, line_is}
use Rattle.queuing.specs.Lines.{last}
use Rattle.queuing.specs.Meanings.{Leader, leader_of, leads, versioned_leads, some_leader, empty_inside, leader_inside, empty_age, leader_age}
use Rattle.queuing.specs.Queue.{Records, Nodes, Behind, to_link, linked as LinkedTo, Chain, ends, goes_on as chain_on, Second, Leads, Says, may_be_open, Rests, held_alone}
use Rattle.queuing.specs.Steps.{Step, Worded, word_set, advances, exchanges_free, exchanges_behind, links_on, frees_word, hands_on}
use Rattle.queuing.specs.Views.{Owns, At, names, AskView, ask_refused, ask_enters, ask_lines_up, PushView, push_refused, links, waits_to_see, sees, closes, tries, frees, opens, waits_for_next, awaits, hands, LeaveView, leave_refused, looks_alone, looks_back}
use Rattle.queuing.specs.Words.{closed_held, closed_window, opened_held}

-- MOVED: session i goes on from stage g to stage h, and nobody enters
pub record Moves (s t : State) (i b : ℕ) (g h : Stage) : Type 0 where
  pub read : record_of s i ≡ Some (claim b g)
  pub step : Step s t i b (Some (claim b h))
  pub line : line t b ≡ line s b
  pub inside : inside t b ≡ inside s b
  pub age : age t b ≡ age s b

-- IN: session i, which leads the line, enters
pub record Enters (s t : State) (i b : ℕ) (g : Stage) : Type 0 where
  pub read : record_of s i ≡ Some (claim b g)
  pub step : Step s t i b (Some (claim b Inside))
  pub line : line t b ≡ line s b
  pub nobody : inside s b ≡ None
  pub inside : inside t b ≡ Some i
  pub age : age t b ≡ next_version (age s b)

-- the session inside leaves for stage h
pub record Leaves (s t : State) (i b : ℕ) (h : Stage) : Type 0 where
  pub read : record_of s i ≡ Some (claim b Inside)
  pub step : Step s t i b (Some (claim b h))
  pub line : line t b ≡ line s b
  pub nobody : inside t b ≡ None
  pub age : age t b ≡ age s b

-- OUT: session i, which leads the line and has left, is out of it
pub record Exits (s t : State) (i b : ℕ) (g : Stage) : Type 0 where
  pub read : record_of s i ≡ Some (claim b g)
  pub step : Step s t i b None
  pub line : line s b ≡ i ∷ line t b
  pub inside : inside t b ≡ inside s b
  pub age : age t b ≡ age s b

-- ASKED: session i has an empty line to itself, or stands last in one
pub record JoinsFirst (s t : State) (i b : ℕ) : Type 0 where
  pub unclaimed : record_of s i ≡ None
  pub step : Step s t i b (Some (claim b Inside))
  pub empty : line s b ≡ []
  pub line : line t b ≡ i ∷ []
  pub nobody : inside s b ≡ None
  pub inside : inside t b ≡ Some i
  pub age : age t b ≡ next_version (age s b)

pub record JoinsLast (s t : State) (i b : ℕ) : Type 0 where
  pub unclaimed : record_of s i ≡ None
  pub node : ℕ
  pub step : Step s t i b (Some (claim b (Link node)))
  pub first : ℕ
  pub rest : List ℕ
  pub before : line s b ≡ first ∷ rest
  pub line : line t b ≡ first ∷ (rest ++ (i ∷ []))
  pub inside : inside t b ≡ inside s b
  pub age : age t b ≡ age s b

-- one leads the line before and after, at stages that tell the same
same_leader :
    {s t : State} {i b f v : ℕ} {w w' : Word} {rest : List ℕ} (g h x y : Stage) → Invariant s →
    record_of s i ≡ Some (claim b g) → Leader s b w f rest x v →
    Step s t i b (Some (claim b h)) × Leader t b w' f rest y v → entered y ≡ entered x → age_at y v ≡ age_at x v →
    Moves s t i b g h
same_leader {s} {t} {i} {b} {f} {v} {w} {w'} g h x y I e L k ee ea =
    let J = k.0.invariant in
    record {
      read = e;
      step = k.0;
      line = line_is J k.1.bin ∙ sym (line_is I L.bin);
      inside = leader_inside y k.1 ∙ ap (λ z. cond z (Some f) None) ee ∙ sym (leader_inside x L);
      age = leader_age w' J k.1 ∙ ea ∙ sym (leader_age w I L);
    }

-- WORDS
-- the word as it is stored
stored_word : {s : State} {b : ℕ} {w : Word} {l : List ℕ} → Bin s b w l → Worded s b s.memory.words (packed w)
stored_word B = record { length = refl; at = B.stored; other = λ c n. refl }

-- another word
written :
    {s : State} {b : ℕ} (x : ℕ) (w : Word) → Invariant s → b < bins_of s → x ≡ packed w →
    Worded s b (slice_set s.memory.words b x) (packed w)
written {s} {b} x w I h e =
    subst (Worded s b (slice_set s.memory.words b x)) e (word_set x I h)

-- another stage of the first that tells the same
says_at :
    (w : Word) (g h : Stage) (v m : ℕ) → age_at h v ≡ age_at g v → may_be_open h ≡ may_be_open g → Says w g v m → Says w h v m
says_at (Free a) g h v m ea eo k = k
says_at (Held n) g h v m ea eo k = k
says_at (Window n a) g h v m ea eo k = (k.0, k.1 ∙ sym ea, eo ∙ k.2)

closed_says : (w : Word) (v m : ℕ) → Says w Close v m → closed (packed w) ≡ packed (Held m)
closed_says (Free a) v m h = absurd h
closed_says (Held n) v m h = closed_held n ∙ ap (λ x. packed (Held x)) h
closed_says (Window n a) v m h = closed_window n a ∙ ap (λ x. packed (Held x)) h.0

-- a word whose window cannot be open is held with the number of the last in line
held_only : (w : Word) (g : Stage) (v m : ℕ) → may_be_open g ≡ false → Says w g v m → w ≡ Held m
held_only (Free a) g v m e h = absurd h
held_only (Held n) g v m e h = ap Held h
held_only (Window n a) g v m e h = absurd (true≢false (sym h.2 ∙ e))

held_by_own : (w : Word) (i : ℕ) → held_by w i ≡ true → w ≡ Held i
held_by_own (Free a) i h = absurd (false≢true h)
held_by_own (Held n) i h = ap Held (eqb-true n i h)
held_by_own (Window n a) i h = absurd (false≢true h)

-- where the last in line is another, somebody stands behind
second_from : (i : ℕ) (rest : List ℕ) → (last i rest ≢ i) → Second rest
second_from i [] n = absurd (n refl)
second_from i (q ∷ qs) n = (q, qs, refl)

-- a next node is the one of the second in line
pub next_second :
    {R : Records} {N : Nodes} {b p q : ℕ} {rest : List ℕ} → Chain R N b p rest → (N p).next ≡ Some q →
    (qs : List ℕ) × (rest ≡ q ∷ qs)
next_second {N = N} {p = p} {q = q} (ends n) e = some_none (N p).next q n e
next_second {R} {N} {b} {p} {q} (chain_on {q = r} {qs} d c) e = (qs, ap (λ x. x ∷ qs) (is d))
  where
    is : Behind R N b p r → r ≡ q
    is (to_link x v n) = some_none (N p).next q n e
    is (LinkedTo x v n) = same_Some r q (sym n ∙ e)

back : (v : ℕ) → v < versions → (next_version v + (versions - 1)) % versions ≡ v
back v l = omega arith

forth : (v : ℕ) → v < versions → v ≡ next_version ((v + (versions - 1)) % versions)
forth v l = omega arith

-- THE LEADER, where session i is one
module _ {s : State} {i b : ℕ} (I : Invariant s) where
  pub leader_at :
      {g : Stage} → At s i b g → remembered g ≡ None →
      (w : Word) × (rest : List ℕ) × (v : ℕ) × Leader s b w i rest g v
  leader_at a n =
      let D = I.bin b a.admitted.bin in
      let L = leads D.1 D.2 a.read n in
      (D.0, L.0, L.1, L.3)

  -- at a stage at which the window cannot be open
  holder_at :
      {g : Stage} → At s i b g → remembered g ≡ None → may_be_open g ≡ false →
      (rest : List ℕ) × (v : ℕ) × Leader s b (Held (last i rest)) i rest g v
  holder_at {g} a n e =
      let L = leader_at a n in
      let rest = L.1 in
      let v = L.2 in
      (rest, v, subst (λ w. Leader s b w i rest g v) (held_only L.0 g v (last i rest) e L.3.first.says) L.3)

  -- PUSH
  links_way :
      {p : ℕ} → At s i b (Link p) → Moves s (linked s i b p) i b (Link p) (See p)
  links_way {p} a =
      let D = I.bin b a.admitted.bin in
      let L = some_leader D.1 i (Link p) D.2 a.read in
      same_leader (Link p) (See p) L.2 L.2 I a.read L.4 (links_on I a L.4) refl refl

  sees_way :
      {p v : ℕ} → At s i b (See p) → (node_of s i).version ≡ Some v → Moves s (staged s i b Close) i b (See p) Close
  sees_way {p} {v} a e =
      let D = I.bin b a.admitted.bin in
      let w = D.0 in
      let M = versioned_leads D.1 v D.2 a.read e in
      let L = M.3 in
      let says = says_at w (See p) Close M.1 (last i M.0) refl refl L.first.says in
      same_leader (See p) Close (See p) Close I a.read L (advances I a Close w L (stored_word L.bin) tt says) refl refl

  closes_way : At s i b Close → Enters s (shut s i b) i b Close
  closes_way a =
      let M = leader_at a refl in
      let w = M.0 in
      let rest = M.1 in
      let v = M.2 in
      let L = M.3 in
      let x = ap closed L.bin.stored ∙ closed_says w v (last i rest) L.first.says in
      let W = written (closed (word_at s b)) (Held (last i rest)) I a.admitted.bin x in
      let k = advances I a Inside (Held (last i rest)) L W tt refl in
      let J = k.0.invariant in
      record {
        read = a.read;
        step = k.0;
        line = line_is J k.1.bin ∙ sym (line_is I L.bin);
        nobody = leader_inside Close L;
        inside = leader_inside Inside k.1;
        age = leader_age (Held (last i rest)) J k.1 ∙ forth v L.first.below ∙ ap next_version (sym (leader_age w I L));
      }

  tries_way :
      {w : Word} → At s i b Try → said s b ≡ Some w → held_by w i ≡ false → Moves s (staged s i b Open) i b Try Open
  tries_way {w} a e n =
      let M = holder_at a refl refl in
      let rest = M.0 in
      let L = M.2 in
      let same : Held (last i rest) ≡ w = same_Some (Held (last i rest)) w (sym (said_is I L.bin) ∙ e) in
      let other : last i rest ≡ i → ⊥ =
      λ q. true≢false (sym (eq-eqb (last i rest) i q) ∙ ap (λ x. held_by x i) same ∙ n) in
      let k = advances I a Open (Held (last i rest)) L (stored_word L.bin) (second_from i rest other) refl in
      same_leader Try Open Try Open I a.read L k refl refl

  frees_way :
      {w : Word} {v : ℕ} → At s i b Try → said s b ≡ Some w → held_by w i ≡ true → (node_of s i).version ≡ Some v →
      Exits s (freed s i b v) i b Try
  frees_way {w} {v} a e h n =
      let M = leader_at a refl in
      let own : M.0 ≡ Held i =
      same_Some M.0 w (sym (said_is I M.3.bin) ∙ e) ∙ held_by_own w i h in
      let same : M.2 ≡ v = same_Some M.2 v (sym M.3.first.holds ∙ n) in
      let K : Leader s b (Held i) i M.1 Try v =
      subst (λ x. Leader s b (Held i) i M.1 Try x) same (subst (λ x. Leader s b x i M.1 Try M.2) own M.3) in
      let L : Leader s b (Held i) i [] Try v =
      subst (λ x. Leader s b (Held i) i x Try v) (held_alone M.1 K.bin.stands.apart K.first) K in
      let k = frees_word I a L in
      let J = k.0.invariant in
      record {
        read = a.read;
        step = k.0;
        line = line_is I L.bin ∙ ap (λ x. i ∷ x) (sym (line_is J k.1));
        inside = empty_inside k.1 ∙ sym (leader_inside Try L);
        age = empty_age J k.1 ∙ sym (leader_age (Held i) I L);
      }

  opens_way :
      {v : ℕ} → At s i b Open → (node_of s i).version ≡ Some v → Moves s (window_opened s i b v) i b Open Await
  opens_way {v} a e =
      let M = holder_at a refl refl in
      let rest = M.0 in
      let m = last i rest in
      let same : M.1 ≡ v = same_Some M.1 v (sym M.2.first.holds ∙ e) in
      let L : Leader s b (Held m) i rest Open v = subst (λ x. Leader s b (Held m) i rest Open x) same M.2 in
      let x = ap (λ y. opened y v) L.bin.stored ∙ opened_held m v L.first.below in
      let W = written (opened (word_at s b) v) (Window m v) I a.admitted.bin x in
      let k = advances I a Await (Window m v) L W L.first.leads (refl, refl, refl) in
      same_leader Open Await Open Await I a.read L k refl refl

  awaits_way :
      {q : ℕ} → At s i b Await → (node_of s i).next ≡ Some q → Moves s (staged s i b Hand) i b Await Hand
  awaits_way {q} a e =
      let M = leader_at a refl in
      let w = M.0 in
      let rest = M.1 in
      let L = M.3 in
      let n = next_second L.first.chain e in
      let says = says_at w Await Hand M.2 (last i rest) refl refl L.first.says in
      let k = advances I a Hand w L (stored_word L.bin) (q, n.0, n.1, e) says in
      same_leader Await Hand Await Hand I a.read L k refl refl

  hands_way :
      {q v : ℕ} → At s i b Hand → (node_of s i).next ≡ Some q → (node_of s i).version ≡ Some v →
      Exits s (handed s i q v) i b Hand
  hands_way {q} {v} a e f =
      let M = leader_at a refl in
      let w = M.0 in
      let n = next_second M.3.first.chain e in
      let qs = n.0 in
      let same : M.2 ≡ v = same_Some M.2 v (sym M.3.first.holds ∙ f) in
      let L : Leader s b w i (q ∷ qs) Hand v =
      subst (λ x. Leader s b w i (q ∷ qs) Hand x) same (subst (λ x. Leader s b w i x Hand M.2) n.1 M.3) in
      let k = hands_on I a L e in
      let J = k.0.invariant in
      record {
        read = a.read;
        step = k.0;
        line = line_is I L.bin ∙ ap (λ x. i ∷ x) (sym (line_is J k.1.bin));
        inside = leader_inside (See i) k.1 ∙ sym (leader_inside Hand L);
        age = leader_age w J k.1 ∙ back v L.first.below ∙ sym (leader_age w I L);
      }

  -- LEAVE
  looks_way :
      (h : Stage) → At s i b Inside → entered h ≡ false → ((v : ℕ) → age_at h v ≡ v) →
      ((rest : List ℕ) → Chain (record_of s) (node_of s) b i rest → Leads h (node_of s i).next rest) →
      Leaves s (staged s i b h) i b h
  looks_way h a out same leads =
      let M = holder_at a refl refl in
      let rest = M.0 in
      let v = M.1 in
      let L = M.2 in
      let w = Held (last i rest) in
      let k = advances I a h w L (stored_word L.bin) (leads rest L.first.chain) refl in
      let J = k.0.invariant in
      record {
        read = a.read;
        step = k.0;
        line = line_is J k.1.bin ∙ sym (line_is I L.bin);
        nobody = leader_inside h k.1 ∙ ap (λ z. cond z (Some i) None) out;
        age = leader_age w J k.1 ∙ same v ∙ sym (leader_age w I L);
      }

  -- ASK
  joins_first_way : {v : ℕ} → Owns s i b None → said s b ≡ Some (Free v) → JoinsFirst s (entered_at_once s i b v) i b
  joins_first_way {v} o e = go D.1 free
    where
      D : (w : Word) × (l : List ℕ) × Bin s b w l
      D = I.bin b o.admitted.bin

      free : Bin s b (Free v) D.1
      free = subst (λ w. Bin s b w D.1) (same_Some D.0 (Free v) (sym (said_is I D.2) ∙ e)) D.2

      go : (l : List ℕ) → Bin s b (Free v) l → JoinsFirst s (entered_at_once s i b v) i b
      go (f ∷ rest) B = absurd B.stands.queue.2.says
      go [] B =
          let k = exchanges_free I o B in
          let J = k.0.invariant in
          record {
            unclaimed = o.read;
            step = k.0;
            empty = line_is I B;
            line = line_is J k.1.bin;
            nobody = empty_inside B;
            inside = leader_inside Inside k.1;
            age = leader_age (Held i) J k.1 ∙ ap next_version (sym (empty_age I B));
          }

  joins_last_way :
      {w : Word} {p : ℕ} → Owns s i b None → said s b ≡ Some w → names w ≡ Some p → JoinsLast s (lined_up s i b p) i b
  joins_last_way {w} {p} o e n = go D.1 same
    where
      D : (w : Word) × (l : List ℕ) × Bin s b w l
      D = I.bin b o.admitted.bin

      same : Bin s b w D.1
      same = subst (λ x. Bin s b x D.1) (same_Some D.0 w (sym (said_is I D.2) ∙ e)) D.2

      rests_not : (x : Word) → names x ≡ Some p → Rests x → ⊥
      rests_not (Free a) q h = some_none (names (Free a)) p refl q
      rests_not (Held m) q h = h
      rests_not (Window m a) q h = h

      names_last : (x : Word) (g : Stage) (v m : ℕ) → names x ≡ Some p → Says x g v m → m ≡ p
      names_last (Free a) g v m q h = absurd h
      names_last (Held r) g v m q h = sym h ∙ same_Some r p q
      names_last (Window r a) g v m q h = sym h.0 ∙ same_Some r p q

      go : (l : List ℕ) → Bin s b w l → JoinsLast s (lined_up s i b p) i b
      go [] B = absurd (rests_not w n B.stands.queue)
      go (f ∷ rest) B =
          let g = B.stands.queue.0 in
          let v = B.stands.queue.1 in
          let L = leader_of B in
          let k = exchanges_behind I o L in
          let J = k.0.invariant in
          subst
          (λ x. JoinsLast s (lined_up s i b x) i b)
          (names_last w g v (last f rest) n L.first.says)
          (record {
            unclaimed = o.read;
            node = last f rest;
            step = k.0;
            first = f;
            rest = rest;
            before = line_is I B;
            line = line_is J k.1.bin;
            inside = leader_inside g k.1 ∙ sym (leader_inside g L);
            age = leader_age (Held i) J k.1 ∙ sym (leader_age w I L);
          })

-- THE WAYS, told by the answer
pub data Asked (s : State) (i b : ℕ) : Outcome AskAnswer State → Type 0 where
  refused_ask : (f : Fault) → Asked s i b (refused s f)
  joins_first : {t : State} → JoinsFirst s t i b → Asked s i b (granted t EntersAtOnce)
  joins_last : {t : State} → JoinsLast s t i b → Asked s i b (granted t NotYet)

pub asked : {s : State} {i b : ℕ} {o : Outcome AskAnswer State} → Invariant s → AskView s i b o → Asked s i b o
asked I (ask_refused f) = refused_ask f
asked I (ask_enters v o e) = joins_first (joins_first_way I o e)
asked I (ask_lines_up w p o e n) = joins_last (joins_last_way I o e n)

-- why a push waits
pub data Waiting (s : State) (i b : ℕ) : Type 0 where
  for_version : (p : ℕ) → At s i b (See p) → (node_of s i).version ≡ None → Waiting s i b
  for_next : At s i b Await → (node_of s i).next ≡ None → Waiting s i b

pub data Pushed (s : State) (i b : ℕ) : Outcome PushAnswer State → Type 0 where
  refused_push : (f : Fault) → Pushed s i b (refused s f)
  waits : Waiting s i b → Pushed s i b (granted s Waits)
  moves :
      {t : State} (g h : Stage) → Moves s t i b g h → has_left h ≡ has_left g → needed_at h < needed_at g →
      Pushed s i b (granted t Moved)
  enters : {t : State} → Enters s t i b Close → Pushed s i b (granted t In)
  exits : {t : State} (g : Stage) → Exits s t i b g → has_left g ≡ true → 0 < needed_at g → Pushed s i b (granted t Out)

pub pushed : {s : State} {i b : ℕ} {o : Outcome PushAnswer State} → Invariant s → PushView s i b o → Pushed s i b o
pushed I (push_refused f) = refused_push f
pushed I (links p a l) = moves (Link p) (See p) (links_way I a) refl (omega arith)
pushed I (waits_to_see p a e) = waits (for_version p a e)
pushed I (sees p v a e) = moves (See p) Close (sees_way I a e) refl (omega arith)
pushed I (closes a) = enters (closes_way I a)
pushed I (tries w a e n) = moves Try Open (tries_way I a e n) refl (omega arith)
pushed I (frees w v a e h n) = exits Try (frees_way I a e h n) refl (omega arith)
pushed I (opens v a e) = moves Open Await (opens_way I a e) refl (omega arith)
pushed I (waits_for_next a e) = waits (for_next a e)
pushed I (awaits q a e) = moves Await Hand (awaits_way I a e) refl (omega arith)
pushed I (hands q v a e f) = exits Hand (hands_way I a e f) refl (omega arith)

pub data Left (s : State) (i b : ℕ) : Outcome LeaveAnswer State → Type 0 where
  refused_leave : (f : Fault) → Left s i b (refused s f)
  leaves :
      {t : State} (h : Stage) → Leaves s t i b h → has_left h ≡ true → needed_at h ≤ 4 →
      Left s i b (granted t StillLeaving)

pub left : {s : State} {i b : ℕ} {o : Outcome LeaveAnswer State} → Invariant s → LeaveView s i b o → Left s i b o
left I (leave_refused f) = refused_leave f
left I (looks_alone a e) = leaves Try (looks_way I Try a refl (λ v. refl) (λ rest c. tt)) refl (omega arith)
left I (looks_back q a e) =
    leaves Open
    (looks_way I Open a refl (λ v. refl) (λ rest c. let n = next_second c e in (q, n.0, n.1)))
    refl
    (omega arith)
