-- What a state with the invariant means at each bin.
use Rattle.std.specs.Prelude.{◌≡◌, ℕ, ◌^◌, ◌<◌, Bool, true, false, cond, ◌⊎◌, List, [], ◌∷◌, Some, None, ◌==◌, ◌≢◌, refl}
use Rattle.std.proofs.Common.{inl, inr, ⊎_elim, sym, ap, subst, ◌∙◌}
use Rattle.std.proofs.lemmas.Bool.{true≢false, false≢true, and_right, false_from_ne_true}
use Rattle.std.proofs.lemmas.Option.{same_Some}
use Rattle.bank.specs.Claims.{passes, at_stage, askers, claim}
use Rattle.bank.specs.Kind.{has}
use Rattle.bank.specs.Laws.{BinMeaning, AskerExists, LineMeaning}
use Rattle.bank.specs.Locks.{word_at, record_of, node_of}
use Rattle.bank.specs.declared.memory.Claim.{Claim}
use Rattle.bank.proofs.Askers.{one_bin, asker_session, asker_in_range}
use Rattle.bank.proofs.Claims.{some_none, stage_claim, claim_asker, inside_claim, nobody_inside, one_inside}
use Rattle.queuing.specs.declared.Stage.{Stage}
use Rattle.queuing.specs.declared.word.Word.{Word}
use Rattle.queuing.specs.declared.word.Word.TheVariants.{Free, Held, Window}
use Rattle.queuing.specs.Meaning.{inside, calm, line, age_at, age_with, age_from, age, version_or_zero}
use Rattle.queuing.specs.State.{State, sessions_of, bins_of, entered, has_left, remembered, remembered_by}
use Rattle.queuing.specs.Word.{versions, unpacked, calm_word, calm_said, version_said}
use Rattle.queuing.specs.Invariant.{Bin, Invariant, age_below, within, said_is, line_is}
use Rattle.queuing.specs.Kind.{queuing}
use Rattle.queuing.specs.Queue.{Behind, First, may_be_open, behind_none, behind_remembers, behind_someone, asker_in, in_asks}
use Rattle.queuing.specs.Stages.{only_inside, entered_forgets, entered_stays, left_forgets}
use Rattle.queuing.specs.Words.{unpacked_packed, within_most, packed_fits}

-- a claim is at its bin and its stage, and at one stage
pub claim_is : {b : ℕ} (c : Claim Stage) → c.bin ≡ b → Some c ≡ Some (claim b c.stage)
claim_is c e = ap (λ x. Some (claim x c.stage)) e

pub same_stage : {b : ℕ} {g h : Stage} → Some (claim b g) ≡ Some (claim b h) → g ≡ h
same_stage {b} {g} {h} e = ap (λ (c : Claim Stage). c.stage) (same_Some (claim b g) (claim b h) e)

-- THE FIRST IN LINE: session i leads the line at bin b, at stage g with version v
pub record Leader (s : State) (b : ℕ) (w : Word) (i : ℕ) (rest : List ℕ) (g : Stage) (v : ℕ) : Type 0 where
  pub bin : Bin s b w (i ∷ rest)
  pub first : First w (record_of s) (node_of s) b i rest g v

-- the leader of a line that stands
pub leader_of :
    {s : State} {b f : ℕ} {w : Word} {rest : List ℕ} (B : Bin s b w (f ∷ rest)) →
    Leader s b w f rest B.stands.queue.0 B.stands.queue.1
leader_of B = record { bin = B; first = B.stands.queue.2 }

-- session i, at stage g, leads the line l
abbrev pub LeadsLine : State → ℕ → Word → List ℕ → ℕ → Stage → Type 0
LeadsLine s b w l i g = (rest : List ℕ) × (v : ℕ) × (l ≡ i ∷ rest) × Leader s b w i rest g v

-- whoever asks at the bin leads its line, or stands right behind another
leads_or_behind :
    {s : State} {b i : ℕ} {w : Word} (l : List ℕ) {g : Stage} → Bin s b w l → record_of s i ≡ Some (claim b g) →
    LeadsLine s b w l i g ⊎ ((r : ℕ) × Behind (record_of s) (node_of s) b r i)
leads_or_behind {i = i} [] {g} B e = absurd (asker_in B.stands i g e)
leads_or_behind {s} {b} {i} {w} (f ∷ rest) {g} B e =
    ⊎_elim
    (λ q. inl (leader q))
    (λ m. let d = behind_someone B.stands.queue.2.chain i m in inr (d.0, d.2))
    (asker_in B.stands i g e)
  where
    leader : i ≡ f → LeadsLine s b w (f ∷ rest) i g
    leader q =
        let h = B.stands.queue.0 in
        let v = B.stands.queue.1 in
        let R = record_of s in
        let N = node_of s in
        let F : First w R N b i rest h v = subst (λ x. First w R N b x rest h v) (sym q) B.stands.queue.2 in (
          rest,
          v,
          ap (λ x. x ∷ rest) (sym q),
          record {
            bin = subst (λ x. Bin s b w (x ∷ rest)) (sym q) B;
            first = subst (λ x. First w R N b i rest x v) (same_stage (sym F.claims ∙ e)) F;
          },
        )

-- a session that remembers no node leads, and so does one that has a version
pub leads :
    {s : State} {b i : ℕ} {w : Word} (l : List ℕ) {g : Stage} → Bin s b w l → record_of s i ≡ Some (claim b g) →
    remembered g ≡ None → LeadsLine s b w l i g
leads l {g} B e n =
    ⊎_elim
    (λ h. h)
    (λ d. some_none (remembered g) d.0 n (sym (ap remembered_by e) ∙ behind_remembers d.1))
    (leads_or_behind l B e)

pub versioned_leads :
    {s : State} {b i : ℕ} {w : Word} (l : List ℕ) {g : Stage} (v : ℕ) → Bin s b w l → record_of s i ≡ Some (claim b g) →
    (node_of s i).version ≡ Some v → LeadsLine s b w l i g
versioned_leads {s} {i = i} l v B e n =
    ⊎_elim
    (λ h. h)
    (λ d. some_none (node_of s i).version v (behind_none d.1) n)
    (leads_or_behind l B e)

-- where somebody asks, somebody leads
pub some_leader :
    {s : State} {b : ℕ} {w : Word} (l : List ℕ) (i : ℕ) (g : Stage) → Bin s b w l → record_of s i ≡ Some (claim b g) →
    (f : ℕ) × (rest : List ℕ) × (h : Stage) × (v : ℕ) × Leader s b w f rest h v
some_leader [] i g B e = absurd (asker_in B.stands i g e)
some_leader (f ∷ rest) i g B e = (f, rest, B.stands.queue.0, B.stands.queue.1, leader_of B)

-- THE ONE INSIDE is the first in line, once it has entered
pub empty_inside : {s : State} {b : ℕ} {w : Word} → Bin s b w [] → inside s b ≡ None
empty_inside {s} {b} B = nobody_inside entered s b (λ j c e q h. out j c (sym e) q)
  where
    out : (j : ℕ) (c : Claim Stage) → Some c ≡ record_of s j → c.bin ≢ b
    out j c e q = true≢false (sym (claim_asker s b j c (sym e) q) ∙ B.stands.members j)

pub leader_inside :
    {s : State} {b i v : ℕ} {w : Word} {rest : List ℕ} (g : Stage) → Leader s b w i rest g v →
    inside s b ≡ cond (entered g) (Some i) None
leader_inside {s} {b} {i} {v} {w} {rest} g L = go (entered g) refl
  where
    head : {j : ℕ} {more : List ℕ} → i ∷ rest ≡ j ∷ more → j ≡ i
    head e = cc

    -- whoever has entered the bin is the first
    is_first :
        (j : ℕ) (c : Claim Stage) → record_of s j ≡ Some c → c.bin ≡ b → entered c.stage ≡ true →
        (j ≡ i) × (c.stage ≡ g)
    is_first j c e q h =
        let m = leads (i ∷ rest) L.bin (e ∙ claim_is c q) (entered_forgets c.stage h) in
        let same = head m.2 in
        (same, same_stage (sym (e ∙ claim_is c q) ∙ ap (record_of s) same ∙ L.first.claims))

    go : (t : Bool) → entered g ≡ t → inside s b ≡ cond t (Some i) None
    go true e =
        one_inside entered s b i (claim b g) L.first.claims refl e (λ j c f q h. (is_first j c f q h).0)
    go false e = nobody_inside entered s b (λ j c f q h. true≢false (sym h ∙ ap entered (is_first j c f q h).1 ∙ e))

-- THE AGE AND THE MARK
module _ {s : State} {b : ℕ} {w : Word} {l : List ℕ} (I : Invariant s) (B : Bin s b w l) where
  pub age_told : age s b ≡ age_from s (Some w) l
  age_told = ap (λ x. age_from s x (line s b)) (said_is I B) ∙ ap (age_from s (Some w)) (line_is I B)

  mark_says : unpacked (word_at s b) 1024 ≡ Some w
  mark_says =
      ap (λ x. unpacked x 1024) B.stored ∙ unpacked_packed 1024 w (within_most (sessions_of s) w (within w l I B))

  pub calm_told : calm s b ≡ calm_word w
  calm_told = ap calm_said mark_says

pub empty_age : {s : State} {b a : ℕ} → Invariant s → Bin s b (Free a) [] → age s b ≡ a
empty_age I B = age_told I B

pub leader_age :
    {s : State} {b i v : ℕ} (w : Word) {rest : List ℕ} {g : Stage} → Invariant s → Leader s b w i rest g v →
    age s b ≡ age_at g v
leader_age (Free a) I L = absurd L.first.says
leader_age {s} {b} {i} {v} (Held n) {rest} {g} I L =
    age_told I L.bin
    ∙ ap (λ r. age_with r (version_or_zero (node_of s i).version)) L.first.claims
    ∙ ap (λ x. age_at g (version_or_zero x)) L.first.holds
leader_age (Window n a) I L = age_told I L.bin ∙ L.first.says.1

-- what a word says where it is calm
calm_age : (s : State) (w : Word) (l : List ℕ) → calm_word w ≡ true → age_from s (Some w) l ≡ version_said (Some w)
calm_age s (Free a) l e = refl
calm_age s (Held n) l e = absurd (false≢true e)
calm_age s (Window n a) l e = refl

open_outside : (g : Stage) → may_be_open g ≡ true → entered g ≡ false
open_outside g e = false_from_ne_true (entered g) (λ h. true≢false (sym e ∙ ap may_be_open (only_inside g h)))

calm_outside : {s : State} {b : ℕ} (w : Word) (l : List ℕ) → Bin s b w l → calm_word w ≡ true → inside s b ≡ None
calm_outside w [] B e = empty_inside B
calm_outside (Free a) (f ∷ rest) B e = absurd B.stands.queue.2.says
calm_outside (Held n) (f ∷ rest) B e = absurd (false≢true e)
calm_outside (Window n a) (f ∷ rest) B e =
    let g = B.stands.queue.0 in
    leader_inside g (leader_of B)
    ∙ ap (λ t. cond t (Some f) None) (open_outside g B.stands.queue.2.says.2)

unasked_calm :
    {s : State} {b : ℕ} (w : Word) (l : List ℕ) → Bin s b w l → ((i : ℕ) → askers s b i ≡ false) → calm_word w ≡ true
unasked_calm (Free a) l B n = refl
unasked_calm (Held m) [] B n = absurd B.stands.queue
unasked_calm (Window m a) l B n = refl
unasked_calm (Held m) (f ∷ rest) B n = absurd (true≢false (sym (in_asks B.stands f (inl refl)) ∙ n f))

age_small : {s : State} {b : ℕ} (w : Word) (l : List ℕ) → Invariant s → Bin s b w l → age s b < versions
age_small (Free a) [] I B = subst (λ x. x < versions) (sym (empty_age I B)) B.stands.queue
age_small (Held n) [] I B = absurd B.stands.queue
age_small (Window n a) [] I B = absurd B.stands.queue
age_small w (f ∷ rest) I B =
    let g = B.stands.queue.0 in
    let v = B.stands.queue.1 in
    subst (λ x. x < versions) (sym (leader_age w I (leader_of B))) (age_below g v B.stands.queue.2.below)

pub bin_meaning : (s : State) (b : ℕ) → Invariant s → b < bins_of s → BinMeaning queuing s b
bin_meaning s b I h =
    let w = (I.bin b h).0 in
    let l = (I.bin b h).1 in
    let B = (I.bin b h).2 in
    record {
      calm_read_off_mark = refl;
      age_read_off_calm_mark =
          λ e. age_told I B ∙ calm_age s w l (sym (calm_told I B) ∙ e) ∙ sym (ap version_said (mark_says I B));
      age_below_modulus = age_small w l I B;
      mark_fits = subst (λ x. x < 2 ^ 64) (sym B.stored) (packed_fits w);
      calm_has_nobody_inside = λ e. calm_outside w l B (sym (calm_told I B) ∙ e);
      unasked_is_calm = λ n. calm_told I B ∙ unasked_calm w l B n;
      inside_is_asker =
          λ i e.
          let c = inside_claim entered s b i e in (
            claim_asker s b i c.0 c.1 c.2,
            ap (passes (at_stage has_left b)) c.1
                ∙ and_right (c.0.bin == b) (has_left c.0.stage) (entered_stays c.0.stage c.3),
          );
      leaving_is_asker =
          λ i e. let c = stage_claim has_left b (record_of s i) e in claim_asker s b i c.0 c.1 c.2;
      asks_at_one_bin = λ i c. one_bin s b c i;
    }

pub asker_exists : (s : State) (i b : ℕ) → Invariant s → AskerExists queuing s i b
asker_exists s i b I =
    record {
      session = asker_session s (sessions_of s) s.bank.sizes b i I.fit;
      bin = asker_in_range s (bins_of s) b i (I.ranged i);
    }

-- THE LINE
pub line_meaning : (s : State) (b : ℕ) → Invariant s → b < bins_of s → LineMeaning queuing s b
line_meaning s b I h =
    record {
      holds_the_askers = λ i. B.stands.members i ∙ ap (has i) (sym (line_is I B));
      only_first_inside =
          λ i e. let c = inside_claim entered s b i e in leading i c.0 c.1 c.2 (entered_forgets c.0.stage c.3);
      only_first_leaving =
          λ i e.
          let c = stage_claim has_left b (record_of s i) e in
          leading i c.0 c.1 c.2 (left_forgets c.0.stage c.3);
    }
  where
    B : Bin s b (I.bin b h).0 (I.bin b h).1
    B = (I.bin b h).2

    leading :
        (i : ℕ) (c : Claim Stage) → record_of s i ≡ Some c → c.bin ≡ b → remembered c.stage ≡ None →
        (rest : List ℕ) × (line s b ≡ i ∷ rest)
    leading i c e q n =
        let m = leads (I.bin b h).1 B (e ∙ claim_is c q) n in
        (m.0, line_is I B ∙ m.2)
