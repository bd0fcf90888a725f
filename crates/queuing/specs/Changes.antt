-- What a call at one bin leaves at the others, and that it keeps the invariant if it keeps its own bin's line.
use Rattle.std.specs.Prelude.{◌≡◌, ℕ, ◌<◌, true, false, List, [], ◌∷◌, length, get_or, Some, None, Option, ◌≢◌, slice_index, slice_index_or, slice_set, refl}
use Rattle.std.proofs.Common.{inl, ⊎_elim, sym, ap, subst, ◌∙◌}
use Rattle.std.proofs.lemmas.List.{get_or-set_same, get_or-set_other, length-set}
use Rattle.std.proofs.lemmas.Bool.{cases_eq, true≢false}
use Rattle.bank.specs.Claims.{passes, at, at_stage, askers}
use Rattle.bank.specs.Kind.{Same}
use Rattle.bank.specs.Locks.{word_at, record_of, node_of}
use Rattle.bank.specs.Memory.{in_range, empty_node}
use Rattle.bank.specs.declared.memory.Claim.{Claim}
use Rattle.bank.specs.declared.memory.Node.{Node}
use Rattle.bank.proofs.Askers.{same_stage, same_askers, same_inside}
use Rattle.bank.proofs.Claims.{passes_set, write_cases}
use Rattle.queuing.specs.declared.Stage.{Stage}
use Rattle.queuing.specs.declared.word.Word.{Word}
use Rattle.queuing.specs.declared.word.Word.TheVariants.{Free, Held, Window}
use Rattle.queuing.specs.Meaning.{age_with, age_from, version_or_zero}
use Rattle.queuing.specs.State.{State, sessions_of, bins_of, entered, has_left}
use Rattle.queuing.specs.Word.{calm_of}
use Rattle.queuing.specs.Invariant.{Bin, Invariant, own_place, line_is}
use Rattle.queuing.specs.Kind.{queuing}
use Rattle.queuing.specs.Lines.{In}
use Rattle.queuing.specs.Meanings.{age_told}
use Rattle.queuing.specs.Queue.{Changed, in_asks, elsewhere}

-- a list with another value at i, as a function of the place
pub set_changed :
    {A : Type 0} (xs : List A) (i : ℕ) (x d : A) → i < length xs →
    Changed (λ j. get_or xs j d) (λ j. get_or (slice_set xs i x) j d) i x
set_changed xs i x d h = record { at = get_or-set_same xs i x d h; other = λ j n. get_or-set_other xs i j x d n }

-- other words, another record of session i, and other nodes
abbrev pub altered : State → ℕ → List ℕ → Option (Claim Stage) → List Node → State
altered s i ws r ns =
    record { bank = s.bank; memory = record { words = ws; records = slice_set s.memory.records i r; nodes = ns } }

-- session i acts at bin b
pub record Change (s : State) (i b : ℕ) (ws : List ℕ) (r : Option (Claim Stage)) (ns : List Node) : Type 0 where
  pub session : i < sessions_of s
  pub words_length : length ws ≡ length s.memory.words
  pub nodes_length : length ns ≡ length s.memory.nodes
  pub words : (c : ℕ) → (c ≢ b) → slice_index ws c ≡ word_at s c
  pub nodes : (c j : ℕ) → (c ≢ b) → askers s c j ≡ true → slice_index_or ns j empty_node ≡ node_of s j
  pub old : (c : ℕ) → (c ≢ b) → askers s c i ≡ false
  pub new : (c : ℕ) → (c ≢ b) → passes (at c) r ≡ false
  pub range : in_range (bins_of s) r ≡ true
  pub idle : (j : ℕ) → slice_index_or (slice_set s.memory.records i r) j None ≡ None → slice_index_or ns j empty_node ≡ empty_node

-- the age is told by the records and nodes of the line
age_same :
    (s t : State) (w : Word) (l : List ℕ) → ((j : ℕ) → In j l → record_of t j ≡ record_of s j) →
    ((j : ℕ) → In j l → node_of t j ≡ node_of s j) → age_from t (Some w) l ≡ age_from s (Some w) l
age_same s t (Free a) l hr hn = refl
age_same s t (Held n) [] hr hn = refl
age_same s t (Held n) (f ∷ rest) hr hn =
    ap (λ r. age_with r (version_or_zero (node_of t f).version)) (hr f (inl refl))
    ∙ ap (λ (m : Node). age_with (record_of s f) (version_or_zero m.version)) (hn f (inl refl))
age_same s t (Window n a) l hr hn = refl

module _
    {s : State} {i b : ℕ} {ws : List ℕ} {r : Option (Claim Stage)} {ns : List Node} (I : Invariant s)
    (C : Change s i b ws r ns) where
  abbrev t : State
  t = altered s i ws r ns

  pub record_there : i < length s.memory.records
  record_there = (own_place I C.session).0

  pub own_record : Changed (record_of s) (record_of t) i r
  own_record = set_changed s.memory.records i r None record_there

  module _ (c : ℕ) (n : c ≡ b → ⊥) where
    asks_same : (j : ℕ) → askers t c j ≡ askers s c j
    asks_same = same_askers s ws i r c (C.new c n) (C.old c n)

    member_record : {w : Word} {l : List ℕ} → Bin s c w l → (j : ℕ) → In j l → record_of t j ≡ record_of s j
    member_record B j h =
        own_record.other j (λ e. true≢false (sym (in_asks B.stands j h) ∙ ap (askers s c) e ∙ C.old c n))

    member_node : {w : Word} {l : List ℕ} → Bin s c w l → (j : ℕ) → In j l → node_of t j ≡ node_of s j
    member_node B j h = C.nodes c j n (in_asks B.stands j h)

    bin_stays : {w : Word} (l : List ℕ) → Bin s c w l → Bin t c w l
    bin_stays l B =
        record {
          stored = C.words c n ∙ B.stored;
          stands = elsewhere l B.stands (member_record B) (member_node B) asks_same;
        }

    pub same_elsewhere : Invariant t → c < bins_of s → Same queuing s t c
    same_elsewhere J h =
        let w = (I.bin c h).0 in
        let l = (I.bin c h).1 in
        let B = (I.bin c h).2 in
        let D = bin_stays l B in
        record {
          askers = asks_same;
          leaving = λ j. passes_set (at_stage has_left c) s.memory.records i r j (same_stage s ws i r c (C.new c n) (C.old c n) has_left);
          inside = same_inside s ws i r c (C.new c n) (C.old c n) entered;
          age = age_told J D ∙ age_same s t w l (member_record B) (member_node B) ∙ sym (age_told I B);
          calm = ap calm_of (C.words c n);
          mark = C.words c n;
          line = line_is J D ∙ sym (line_is I B);
        }

  pub invariant_after : {w : Word} {l : List ℕ} → Bin t b w l → Invariant t
  invariant_after {w} {l} B =
      record {
        fit = rw (C.words_length, C.nodes_length, length-set) I.fit;
        ranged =
            λ j.
            ⊎_elim
            (λ q. ap (in_range (bins_of s)) q.1 ∙ C.range)
            (λ q. ap (in_range (bins_of s)) q.1 ∙ I.ranged j)
            (write_cases s.memory.records i r None j record_there);
        idle = C.idle;
        bin =
            λ c h.
            ⊎_elim
            (λ e. (w, l, subst (λ d. Bin t d w l) (sym e) B))
            (λ n. let D = I.bin c h in (D.0, D.1, bin_stays c n D.1 D.2))
            (cases_eq c b);
      }
