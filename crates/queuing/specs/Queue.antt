-- The queue at a bin, over the sessions' records and nodes: its shape, and that each action keeps it.
use Rattle.std.specs.Prelude.{◌≡◌, ℕ, ◌+◌, ◌-◌, ◌%◌, ◌<◌, Bool, true, false, not, ◌&&◌, ◌||◌, List, [], ◌∷◌, ◌++◌, Some, None, Option, ◌==◌, ◌≢◌, refl}
use Rattle.std.proofs.Common.{inl, inr, ⊎_elim, sym, ap, subst, ◌∙◌, arith}
use Rattle.std.proofs.lemmas.Bool.{eq-eqb, ne_eqb, cases_eq, true≢false}
use Rattle.std.proofs.lemmas.Option.{same_Some}
use Rattle.bank.specs.Claims.{passes, at, claim}
use Rattle.bank.specs.Kind.{has}
use Rattle.bank.specs.Memory.{empty_node}
use Rattle.bank.specs.declared.memory.Claim.{Claim}
use Rattle.bank.specs.declared.memory.Node.{Node}
use Rattle.bank.proofs.Claims.{some_none}
use Rattle.queuing.specs.declared.Stage.{Stage}
use Rattle.queuing.specs.declared.Stage.TheVariants.{Link, See, Close, Inside, Try, Open, Await, Hand}
use Rattle.queuing.specs.declared.word.Word.{Word}
use Rattle.queuing.specs.declared.word.Word.TheVariants.{Free, Held, Window}
use Rattle.queuing.specs.Meaning.{age_at, needed_by}
use Rattle.queuing.specs.State.{remembered_by, with_next, with_version}
use Rattle.queuing.specs.Word.{versions, next_version}
use Rattle.queuing.specs.Lines.{In, Apart, last, has_in, in_has, not_in_has, has_push, apart_push, last_push, last_in}

abbrev pub Records : Type 0
Records = ℕ → Option (Claim Stage)

abbrev pub Nodes : Type 0
Nodes = ℕ → Node

-- f' is f but for x at i
pub record Changed {A : Type 0} (f f' : ℕ → A) (i : ℕ) (x : A) : Type 0 where
  pub at : f' i ≡ x
  pub other : (j : ℕ) → (j ≢ i) → f' j ≡ f j

-- q stands right behind p at bin b: it has no version, remembers p's node, and is linked to it or about to link
pub data Behind (R : Records) (N : Nodes) (b p q : ℕ) : Type 0 where
  to_link : R q ≡ Some (claim b (Link p)) → (N q).version ≡ None → (N p).next ≡ None → Behind R N b p q
  linked : R q ≡ Some (claim b (See p)) → (N q).version ≡ None → (N p).next ≡ Some q → Behind R N b p q

-- each stands right behind the one before it, from p on, and nobody behind the last
pub data Chain (R : Records) (N : Nodes) (b : ℕ) : ℕ → List ℕ → Type 0 where
  ends : {p : ℕ} → (N p).next ≡ None → Chain R N b p []
  goes_on : {p q : ℕ} {qs : List ℕ} → Behind R N b p q → Chain R N b q qs → Chain R N b p (q ∷ qs)

-- some session stands in the line behind the first
abbrev pub Second : List ℕ → Type 0
Second rest = (q : ℕ) × (qs : List ℕ) × (rest ≡ q ∷ qs)

-- what the stage of the first in line tells of its next node and of those behind it
abbrev pub Leads : Stage → Option ℕ → List ℕ → Type 0
Leads (Link p) next rest = ⊥
Leads (See p) next rest = Unit {0}
Leads Close next rest = Unit {0}
Leads Inside next rest = Unit {0}
Leads Try next rest = Unit {0}
Leads Open next rest = Second rest
Leads Await next rest = Second rest
Leads Hand next rest = (q : ℕ) × (qs : List ℕ) × (rest ≡ q ∷ qs) × (next ≡ Some q)

-- the stages of the first at which the window may be open
abbrev pub may_be_open : Stage → Bool
may_be_open (Link p) = false
may_be_open (See p) = true
may_be_open Close = true
may_be_open Inside = false
may_be_open Try = false
may_be_open Open = false
may_be_open Await = true
may_be_open Hand = true

-- what the word says, where the first is at stage g with version v and m is the last
abbrev pub Says : Word → Stage → ℕ → ℕ → Type 0
Says (Free a) g v m = ⊥
Says (Held n) g v m = n ≡ m
Says (Window n a) g v m = (n ≡ m) × (a ≡ age_at g v) × (may_be_open g ≡ true)

-- f is the first in line, at stage g with version v
pub record First (w : Word) (R : Records) (N : Nodes) (b f : ℕ) (rest : List ℕ) (g : Stage) (v : ℕ) : Type 0 where
  pub claims : R f ≡ Some (claim b g)
  pub holds : (N f).version ≡ Some v
  pub below : v < versions
  pub leads : Leads g (N f).next rest
  pub says : Says w g v (last f rest)
  pub chain : Chain R N b f rest

abbrev pub Rests : Word → Type 0
Rests (Free a) = a < versions
Rests (Held n) = ⊥
Rests (Window n a) = ⊥

abbrev pub Queue : Word → Records → Nodes → ℕ → List ℕ → Type 0
Queue w R N b [] = Rests w
Queue w R N b (f ∷ rest) = (g : Stage) × (v : ℕ) × First w R N b f rest g v

-- the line l stands at bin b, and holds its askers
pub record Stands (w : Word) (R : Records) (N : Nodes) (b : ℕ) (l : List ℕ) : Type 0 where
  pub queue : Queue w R N b l
  pub apart : Apart l
  pub members : (j : ℕ) → passes (at b) (R j) ≡ has j l

-- THOSE BEHIND THE FIRST
module _ {R : Records} {N : Nodes} {b p q : ℕ} where
  pub behind_none : Behind R N b p q → (N q).version ≡ None
  behind_none (to_link r v n) = v
  behind_none (linked r v n) = v

  pub behind_remembers : Behind R N b p q → remembered_by (R q) ≡ Some p
  behind_remembers (to_link r v n) = ap remembered_by r
  behind_remembers (linked r v n) = ap remembered_by r

  pub behind_kept :
      {R' : Records} {N' : Nodes} → R' q ≡ R q → (N' q).version ≡ (N q).version → (N' p).next ≡ (N p).next →
      Behind R N b p q → Behind R' N' b p q
  behind_kept er ev en (to_link r v n) = to_link (er ∙ r) (ev ∙ v) (en ∙ n)
  behind_kept er ev en (linked r v n) = linked (er ∙ r) (ev ∙ v) (en ∙ n)

-- everyone in a chain stands behind another
pub behind_someone :
    {R : Records} {N : Nodes} {b p : ℕ} {l : List ℕ} → Chain R N b p l → (i : ℕ) → In i l →
    (r : ℕ) × In r (p ∷ l) × Behind R N b r i
behind_someone (ends e) i h = absurd h
behind_someone {R} {N} {b} {p} (goes_on d c) i (inl h) = (p, inl refl, subst (Behind R N b p) (sym h) d)
behind_someone (goes_on d c) i (inr h) = let w = behind_someone c i h in (w.0, inr w.1, w.2)

-- a chain reads the next node of its first, and the records and nodes of the others
pub chain_kept :
    {R R' : Records} {N N' : Nodes} {b p : ℕ} {l : List ℕ} → Chain R N b p l → (N' p).next ≡ (N p).next →
    ((j : ℕ) → In j l → R' j ≡ R j) → ((j : ℕ) → In j l → N' j ≡ N j) → Chain R' N' b p l
chain_kept (ends n) e hr hn = ends (e ∙ n)
chain_kept (goes_on {q} d c) e hr hn =
    let n = hn q (inl refl) in
    goes_on
    (behind_kept (hr q (inl refl)) (ap (λ (m : Node). m.version) n) e d)
    (chain_kept c (ap (λ (m : Node). m.next) n) (λ j h. hr j (inr h)) (λ j h. hn j (inr h)))

-- one more at the end, who is about to link
pub chain_push :
    {R R' : Records} {N : Nodes} {b p : ℕ} {l : List ℕ} → Chain R N b p l → (i : ℕ) →
    ((j : ℕ) → In j l → R' j ≡ R j) → R' i ≡ Some (claim b (Link (last p l))) → N i ≡ empty_node →
    Chain R' N b p (l ++ (i ∷ []))
chain_push (ends e) i hr r n =
    goes_on (to_link r (ap (λ (m : Node). m.version) n) e) (ends (ap (λ (m : Node). m.next) n))
chain_push (goes_on {q} d c) i hr r n =
    goes_on (behind_kept (hr q (inl refl)) refl refl d) (chain_push c i (λ j h. hr j (inr h)) r n)

-- a session about to link finds no next in the node before it
pub to_link_finds :
    {R : Records} {N : Nodes} {b r p i : ℕ} → R i ≡ Some (claim b (Link p)) → Behind R N b r i →
    (r ≡ p) × ((N r).next ≡ None)
to_link_finds {R} {N} {b} {r} {p} e (to_link f v n) = (same_Some r p (ap remembered_by (sym f ∙ e)), n)
to_link_finds e (linked f v n) = absurd (omega (arith, ap needed_by (sym f ∙ e)))

-- session i links itself to the node p before it
module _
    {R R' : Records} {N N' : Nodes} {b i p : ℕ} (own : R i ≡ Some (claim b (Link p)))
    (rec : Changed R R' i (Some (claim b (See p)))) (node : Changed N N' p (with_next (N p) i)) where
  versions_stay : (j : ℕ) → (N' j).version ≡ (N j).version
  versions_stay j =
      ⊎_elim
      (λ e. ap (λ k. (N' k).version) e ∙ ap (λ (m : Node). m.version) node.at ∙ ap (λ k. (N k).version) (sym e))
      (λ n. ap (λ (m : Node). m.version) (node.other j n))
      (cases_eq j p)

  chain_link : {r : ℕ} {l : List ℕ} → Chain R N b r l → Apart (r ∷ l) → In i l → Chain R' N' b r l
  chain_link (ends e) a h = absurd h
  chain_link (goes_on {p = r} {q} {qs} d c) a (inl h) =
      goes_on new (chain_kept c next_stays (λ j k. rec.other j (not_own j k)) (λ j k. node.other j (not_before j k)))
    where
      before : r ≡ p
      before = (to_link_finds own (subst (Behind R N b r) (sym h) d)).0

      new : Behind R' N' b r q
      new =
          linked
          (ap R' (sym h) ∙ rec.at ∙ ap (λ k. Some (claim b (See k))) (sym before))
          (versions_stay q ∙ behind_none d)
          (ap (λ k. (N' k).next) before ∙ ap (λ (m : Node). m.next) node.at ∙ ap Some h)

      next_stays : (N' q).next ≡ (N q).next
      next_stays = ap (λ (m : Node). m.next) (node.other q (λ e. a.0 (inl (before ∙ sym e))))

      not_own : (j : ℕ) → In j qs → j ≢ i
      not_own j k e = a.1.0 (subst (λ x. In x qs) (e ∙ h) k)

      not_before : (j : ℕ) → In j qs → j ≢ p
      not_before j k e = a.0 (inr (subst (λ x. In x qs) (e ∙ sym before) k))
  chain_link (goes_on {p = r} {q} {qs} d c) a (inr h) =
      goes_on
      (behind_kept (rec.other q not_own) (versions_stay q) (ap (λ (m : Node). m.next) (node.other r not_before)) d)
      (chain_link c a.1 h)
    where
      not_own : q ≡ i → ⊥
      not_own e = a.1.0 (subst (λ x. In x qs) (sym e) h)

      not_before : r ≡ p → ⊥
      not_before e =
          let w = behind_someone c i h in
          a.0 (subst (λ x. In x (q ∷ qs)) ((to_link_finds own w.2).0 ∙ sym e) w.1)

-- THE MEMBERS, as a record changes
module _ {R R' : Records} {i : ℕ} {r : Option (Claim Stage)} (own : Changed R R' i r) where
  -- the new record passes a test where the old one did
  pub passes_stay : (p : Claim Stage → Bool) → passes p r ≡ passes p (R i) → (j : ℕ) → passes p (R' j) ≡ passes p (R j)
  passes_stay p e j =
      ⊎_elim
      (λ q. ap (λ k. passes p (R' k)) q ∙ ap (passes p) own.at ∙ e ∙ ap (λ k. passes p (R k)) (sym q))
      (λ n. ap (passes p) (own.other j n))
      (cases_eq j i)

  -- the new record passes, or does not
  pub passes_added :
      (p : Claim Stage → Bool) → passes p r ≡ true → (j : ℕ) → passes p (R' j) ≡ (j == i || passes p (R j))
  passes_added p e j =
      ⊎_elim
      (λ q.
      ap (λ k. passes p (R' k)) q ∙ ap (passes p) own.at ∙ e ∙ sym (ap (λ t. t || passes p (R j)) (eq-eqb j i q)))
      (λ n. ap (passes p) (own.other j n) ∙ sym (ap (λ t. t || passes p (R j)) (ne_eqb j i n)))
      (cases_eq j i)

  pub passes_removed :
      (p : Claim Stage → Bool) → passes p r ≡ false → (j : ℕ) → passes p (R' j) ≡ (not (j == i) && passes p (R j))
  passes_removed p e j =
      ⊎_elim
      (λ q.
      ap (λ k. passes p (R' k)) q ∙ ap (passes p) own.at ∙ e
      ∙ sym (ap (λ t. not t && passes p (R j)) (eq-eqb j i q)))
      (λ n. ap (passes p) (own.other j n) ∙ sym (ap (λ t. not t && passes p (R j)) (ne_eqb j i n)))
      (cases_eq j i)

  members_push :
      (b : ℕ) (l : List ℕ) → passes (at b) r ≡ true → ((j : ℕ) → passes (at b) (R j) ≡ has j l) →
      (j : ℕ) → passes (at b) (R' j) ≡ has j (l ++ (i ∷ []))
  members_push b l e m j = passes_added (at b) e j ∙ ap (λ t. (j == i) || t) (m j) ∙ sym (has_push j l i)

  members_drop :
      (b : ℕ) (rest : List ℕ) → passes (at b) r ≡ false → (In i rest → ⊥) →
      ((j : ℕ) → passes (at b) (R j) ≡ has j (i ∷ rest)) → (j : ℕ) → passes (at b) (R' j) ≡ has j rest
  members_drop b rest e out m j =
      ⊎_elim
      (λ q.
      ap (λ k. passes (at b) (R' k)) q ∙ ap (passes (at b)) own.at ∙ e
      ∙ sym (ap (λ k. has k rest) q ∙ not_in_has i rest out))
      (λ n. ap (passes (at b)) (own.other j n) ∙ m j ∙ ap (λ t. t || has j rest) (ne_eqb j i n))
      (cases_eq j i)

-- a claim at bin b is at bin b
pub at_itself : (b : ℕ) (g : Stage) → passes (at b) (Some (claim b g)) ≡ true
at_itself b g = eq-eqb b b refl

-- who asks at the bin stands in its line, and who does not, does not
module _ {w : Word} {R : Records} {N : Nodes} {b : ℕ} {l : List ℕ} (S : Stands w R N b l) where
  pub asker_in : (i : ℕ) (g : Stage) → R i ≡ Some (claim b g) → In i l
  asker_in i g e = has_in i l (sym (S.members i) ∙ ap (passes (at b)) e ∙ at_itself b g)

  pub in_asks : (i : ℕ) → In i l → passes (at b) (R i) ≡ true
  in_asks i h = S.members i ∙ in_has i l h

  pub unclaimed_out : (i : ℕ) → R i ≡ None → In i l → ⊥
  unclaimed_out i e h = true≢false (sym (in_asks i h) ∙ ap (passes (at b)) e)

-- 1. EXCHANGE at a free word
pub exchange_free :
    {R R' : Records} {N N' : Nodes} {b i a : ℕ} → Stands (Free a) R N b [] → Changed R R' i (Some (claim b Inside)) →
    N i ≡ empty_node → Changed N N' i (with_version (N i) (next_version a)) →
    First (Held i) R' N' b i [] Inside (next_version a) × Stands (Held i) R' N' b (i ∷ [])
exchange_free {R} {R'} {N} {N'} {b} {i} {a} S own e node = (
  first,
  record {
    queue = (Inside, next_version a, first);
    apart = (λ k. k, tt);
    members = members_push own b [] (at_itself b Inside) S.members;
  },
)
  where
    first : First (Held i) R' N' b i [] Inside (next_version a)
    first =
        record {
          claims = own.at;
          holds = ap (λ (m : Node). m.version) node.at;
          below = omega arith;
          leads = tt;
          says = refl;
          chain = ends (ap (λ (m : Node). m.next) node.at ∙ ap (λ (m : Node). m.next) e);
        }

leads_push : (g : Stage) (next : Option ℕ) (l : List ℕ) (i : ℕ) → Leads g next l → Leads g next (l ++ (i ∷ []))
leads_push (Link p) next l i h = h
leads_push (See p) next l i h = tt
leads_push Close next l i h = tt
leads_push Inside next l i h = tt
leads_push Try next l i h = tt
leads_push Open next l i h = (h.0, h.1 ++ (i ∷ []), ap (λ k. k ++ (i ∷ [])) h.2)
leads_push Await next l i h = (h.0, h.1 ++ (i ∷ []), ap (λ k. k ++ (i ∷ [])) h.2)
leads_push Hand next l i h = (h.0, h.1 ++ (i ∷ []), ap (λ k. k ++ (i ∷ [])) h.2, h.3)

-- 1. EXCHANGE at a held word or a window
pub exchange_behind :
    {w : Word} {R R' : Records} {N : Nodes} {b f i v : ℕ} {rest : List ℕ} {g : Stage} →
    Stands w R N b (f ∷ rest) → First w R N b f rest g v → R i ≡ None → N i ≡ empty_node →
    Changed R R' i (Some (claim b (Link (last f rest)))) →
    First (Held i) R' N b f (rest ++ (i ∷ [])) g v × Stands (Held i) R' N b (f ∷ (rest ++ (i ∷ [])))
exchange_behind {w} {R} {R'} {N} {b} {f} {i} {v} {rest} {g} S F none e own = (
  first,
  record {
    queue = (g, v, first);
    apart = apart_push (f ∷ rest) i out S.apart;
    members = members_push own b (f ∷ rest) (at_itself b (Link (last f rest))) S.members;
  },
)
  where
    out : In i (f ∷ rest) → ⊥
    out = unclaimed_out S i none

    first : First (Held i) R' N b f (rest ++ (i ∷ [])) g v
    first =
        record {
          claims = own.other f (λ q. out (inl (sym q))) ∙ F.claims;
          holds = F.holds;
          below = F.below;
          leads = leads_push g (N f).next rest i F.leads;
          says = sym (last_push f rest i);
          chain = chain_push F.chain i (λ j h. own.other j (λ q. out (inr (subst (λ x. In x rest) q h)))) own.at e;
        }

-- 2. LINK
-- whoever is about to link is not first
pub link_behind :
    {w : Word} {R : Records} {N : Nodes} {b f i p v : ℕ} {rest : List ℕ} {g : Stage} → Stands w R N b (f ∷ rest) →
    First w R N b f rest g v → R i ≡ Some (claim b (Link p)) → (f ≢ i) × In i rest
link_behind {w} {R} {N} {b} {f} {i} {p} {v} {rest} {g} S F own =
    (not_first, ⊎_elim (λ e. absurd (not_first (sym e))) (λ h. h) (asker_in S i (Link p) own))
  where
    leads_not : (h : Stage) → h ≡ Link p → Leads h (N f).next rest → ⊥
    leads_not h e k = subst (λ x. Leads x (N f).next rest) e k

    not_first : f ≡ i → ⊥
    not_first e =
        leads_not g
        (ap (λ (c : Claim Stage). c.stage) (same_Some (claim b g) (claim b (Link p)) (sym F.claims ∙ ap R e ∙ own)))
        F.leads

pub link_keeps :
    {w : Word} {R R' : Records} {N N' : Nodes} {b f i p v : ℕ} {rest : List ℕ} {g : Stage} →
    Stands w R N b (f ∷ rest) → First w R N b f rest g v → R i ≡ Some (claim b (Link p)) →
    Changed R R' i (Some (claim b (See p))) → Changed N N' p (with_next (N p) i) →
    First w R' N' b f rest g v × Stands w R' N' b (f ∷ rest)
link_keeps {w} {R} {R'} {N} {N'} {b} {f} {i} {p} {v} {rest} {g} S F e own node = (
  first,
  record {
    queue = (g, v, first);
    apart = S.apart;
    members = λ j. passes_stay own (at b) (at_itself b (See p) ∙ sym (ap (passes (at b)) e ∙ at_itself b (Link p))) j ∙ S.members j;
  },
)
  where
    h : (f ≢ i) × In i rest
    h = link_behind S F e

    -- the node before has no next, so it is not the first one that hands over
    not_before : (q : ℕ) → (N f).next ≡ Some q → f ≢ p
    not_before q k z =
        let d = behind_someone F.chain i h.1 in
        let n = to_link_finds e d.2 in
        some_none (N f).next q (ap (λ x. (N x).next) (z ∙ sym n.0) ∙ n.1) k

    leads_stay : (x : Stage) → Leads x (N f).next rest → Leads x (N' f).next rest
    leads_stay (Link q) k = k
    leads_stay (See q) k = tt
    leads_stay Close k = tt
    leads_stay Inside k = tt
    leads_stay Try k = tt
    leads_stay Open k = k
    leads_stay Await k = k
    leads_stay Hand k =
        (k.0, k.1, k.2, ap (λ (m : Node). m.next) (node.other f (not_before k.0 k.3)) ∙ k.3)

    first : First w R' N' b f rest g v
    first =
        record {
          claims = own.other f h.0 ∙ F.claims;
          holds = versions_stay e own node f ∙ F.holds;
          below = F.below;
          leads = leads_stay g F.leads;
          says = F.says;
          chain = chain_link e own node F.chain S.apart h.1;
        }

-- 3 to 8. THE FIRST GOES ON to the stage h, with its node as it was
pub restaged :
    {w : Word} (w' : Word) {R R' : Records} {N : Nodes} {b f v : ℕ} {rest : List ℕ} {g : Stage} (h : Stage) →
    Stands w R N b (f ∷ rest) → First w R N b f rest g v → Changed R R' f (Some (claim b h)) →
    Leads h (N f).next rest → Says w' h v (last f rest) →
    First w' R' N b f rest h v × Stands w' R' N b (f ∷ rest)
restaged {w} w' {R} {R'} {N} {b} {f} {v} {rest} {g} h S F own leads says = (
  first,
  record {
    queue = (h, v, first);
    apart = S.apart;
    members = λ j. passes_stay own (at b) (at_itself b h ∙ sym (ap (passes (at b)) F.claims ∙ at_itself b g)) j ∙ S.members j;
  },
)
  where
    first : First w' R' N b f rest h v
    first =
        record {
          claims = own.at;
          holds = F.holds;
          below = F.below;
          leads = leads;
          says = says;
          chain =
              chain_kept F.chain refl (λ j k. own.other j (λ e. S.apart.0 (subst (λ x. In x rest) e k))) (λ j k. refl);
        }

-- 6. TRY, where the word is held with the own number: nobody stands behind
pub held_alone :
    {R : Records} {N : Nodes} {b f : ℕ} (rest : List ℕ) {g : Stage} {v : ℕ} → Apart (f ∷ rest) →
    First (Held f) R N b f rest g v → rest ≡ []
held_alone [] a F = refl
held_alone (q ∷ qs) a F = absurd (a.0 (subst (λ x. In x (q ∷ qs)) (sym F.says) (last_in q qs)))

pub freed_keeps :
    {w : Word} {R R' : Records} {N N' : Nodes} {b f v : ℕ} → Stands w R N b (f ∷ []) → v < versions →
    Changed R R' f None → Stands (Free v) R' N' b []
freed_keeps {b = b} S l own =
    record { queue = l; apart = tt; members = members_drop own b [] refl (λ k. k) S.members }

-- 9. HAND
back_to : (v : ℕ) → v < versions → v ≡ (next_version v + (versions - 1)) % versions
back_to v l = omega arith

hand_says : (w : Word) (f v m : ℕ) → v < versions → Says w Hand v m → Says w (See f) (next_version v) m
hand_says (Free a) f v m l h = h
hand_says (Held n) f v m l h = h
hand_says (Window n a) f v m l h = (h.0, h.1 ∙ back_to v l, refl)

-- the one that is linked to the first is about to see
next_sees :
    {R : Records} {N : Nodes} {b p q : ℕ} → (N p).next ≡ Some q → Behind R N b p q → R q ≡ Some (claim b (See p))
next_sees {R} {N} {b} {p} {q} e (to_link r v n) = some_none (N p).next q n e
next_sees e (linked r v n) = r

pub chain_parts :
    {R : Records} {N : Nodes} {b p q : ℕ} {qs : List ℕ} → Chain R N b p (q ∷ qs) → Behind R N b p q × Chain R N b q qs
chain_parts (goes_on d c) = (d, c)

pub handed_keeps :
    {w : Word} {R R' : Records} {N N' N'' : Nodes} {b f q v : ℕ} {qs : List ℕ} → Stands w R N b (f ∷ (q ∷ qs)) →
    First w R N b f (q ∷ qs) Hand v → (N f).next ≡ Some q → Changed R R' f None →
    Changed N N' q (with_version (N q) (next_version v)) → Changed N' N'' f empty_node →
    First w R' N'' b q qs (See f) (next_version v) × Stands w R' N'' b (q ∷ qs)
handed_keeps {w} {R} {R'} {N} {N'} {N''} {b} {f} {q} {v} {qs} S F e own node empty = (
  first,
  record {
    queue = (See f, next_version v, first);
    apart = S.apart.1;
    members = members_drop own b (q ∷ qs) refl S.apart.0 S.members;
  },
)
  where
    parts : Behind R N b f q × Chain R N b q qs
    parts = chain_parts F.chain

    second : q ≡ f → ⊥
    second z = S.apart.0 (inl (sym z))

    behind : (j : ℕ) → In j qs → j ≢ f
    behind j h z = S.apart.0 (inr (subst (λ x. In x qs) z h))

    node_is : N'' q ≡ with_version (N q) (next_version v)
    node_is = empty.other q second ∙ node.at

    first : First w R' N'' b q qs (See f) (next_version v)
    first =
        record {
          claims = own.other q second ∙ next_sees e parts.0;
          holds = ap (λ (m : Node). m.version) node_is;
          below = omega arith;
          leads = tt;
          says = hand_says w f v (last q qs) F.below F.says;
          chain =
              chain_kept parts.1 (ap (λ (m : Node). m.next) node_is)
              (λ j h. own.other j (behind j h))
              (λ j h. empty.other j (behind j h) ∙ node.other j (λ z. S.apart.1.0 (subst (λ x. In x qs) z h)));
        }

-- ELSEWHERE: a line whose members keep their records and nodes stands as before
pub elsewhere :
    {w : Word} {R R' : Records} {N N' : Nodes} {b : ℕ} (l : List ℕ) → Stands w R N b l →
    ((j : ℕ) → In j l → R' j ≡ R j) → ((j : ℕ) → In j l → N' j ≡ N j) →
    ((j : ℕ) → passes (at b) (R' j) ≡ passes (at b) (R j)) → Stands w R' N' b l
elsewhere [] S hr hn hm = record { queue = S.queue; apart = tt; members = λ j. hm j ∙ S.members j }
elsewhere {w} {R} {R'} {N} {N'} {b} (f ∷ rest) S hr hn hm =
    let F = S.queue.2 in
    let n = hn f (inl refl) in
    record {
      queue = (
        S.queue.0,
        S.queue.1,
        record {
          claims = hr f (inl refl) ∙ F.claims;
          holds = ap (λ (m : Node). m.version) n ∙ F.holds;
          below = F.below;
          leads = subst (λ (m : Node). Leads S.queue.0 m.next rest) (sym n) F.leads;
          says = F.says;
          chain = chain_kept F.chain (ap (λ (m : Node). m.next) n) (λ j h. hr j (inr h)) (λ j h. hn j (inr h));
        },
      );
      apart = S.apart;
      members = λ j. hm j ∙ S.members j;
    }
