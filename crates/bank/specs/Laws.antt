-- What every lock kind owes: docs/LOCKS.md tells each law in words.
use Rattle.std.specs.Prelude.{◌≡◌, ℕ, ◌^◌, ◌<◌, ◌≤◌, true, false, not, ◌&&◌, ◌||◌, List, [], ◌∷◌, ◌++◌, length, is_ok, is_err, Some, None, Ok, Err, ◌==◌, ◌≢◌}
use Rattle.bank.specs.Kind.{Kind, Reached, Same, Entry, NoEntry, has, joined, sessions, bins, fit}
use Rattle.bank.specs.Memory.{within_limits}
use Rattle.bank.specs.Refusals.{bad_size, no_session, no_bin, out_of_turn}
use Rattle.bank.specs.declared.answers.AskAnswer.TheVariants.{In as EntersAtOnce, NotYet}
use Rattle.bank.specs.declared.answers.LeaveAnswer.TheVariants.{Moved as StillLeaving, Out as OutAtOnce}
use Rattle.bank.specs.declared.answers.PushAnswer.TheVariants.{Waits, Moved, In, Out}
use Rattle.bank.specs.declared.memory.Sizes.{Sizes}

module _ {S : Type 0} (k : Kind S) where
  -- What a reached state s tells of a bin b that there is.
  pub record BinMeaning (s : S) (b : ℕ) : Type 0 where
    pub calm_read_off_mark : k.calm s b ≡ k.calm_of (k.mark s b)
    pub age_read_off_calm_mark : k.calm s b ≡ true → k.age s b ≡ k.age_of (k.mark s b)
    pub age_below_modulus : k.age s b < k.modulus
    pub mark_fits : k.mark s b < 2 ^ 64
    pub calm_has_nobody_inside : k.calm s b ≡ true → k.inside s b ≡ None
    pub unasked_is_calm : ((i : ℕ) → k.askers s b i ≡ false) → k.calm s b ≡ true
    pub inside_is_asker : (i : ℕ) → k.inside s b ≡ Some i → (k.askers s b i ≡ true) × (k.leaving s b i ≡ false)
    pub leaving_is_asker : (i : ℕ) → k.leaving s b i ≡ true → k.askers s b i ≡ true
    pub asks_at_one_bin : (i c : ℕ) → k.askers s b i ≡ true → k.askers s c i ≡ true → c ≡ b

  -- An asker's session and bin are there.
  pub record AskerExists (s : S) (i b : ℕ) : Type 0 where
    pub session : k.askers s b i ≡ true → i < sessions k s
    pub bin : k.askers s b i ≡ true → b < bins k s

  -- LAYOUT, at any state: granted exactly where the memory has the lengths told for sizes within their limits, and the
  -- age is below the modulus.
  pub record LayoutRule (s : S) (z : Sizes) (a : ℕ) : Type 0 where
    pub wrong_length : k.fits s z ≡ false → (k.lays s z a).answer ≡ Err bad_size
    pub wrong_age : k.modulus ≤ a → (k.lays s z a).answer ≡ Err bad_size
    pub granted : k.fits s z ≡ true → a < k.modulus → is_ok (k.lays s z a).answer ≡ true

  -- What a granted layout leaves.
  pub record LaidOut (s : S) (z : Sizes) (a : ℕ) : Type 0 where
    pub sizes : k.sizes s ≡ z
    pub fit : fit k s ≡ true
    pub no_askers : (b i : ℕ) → b < z.bins → k.askers s b i ≡ false
    pub starting_age : (b : ℕ) → b < z.bins → k.age s b ≡ a
    pub empty_line : (b : ℕ) → b < z.bins → k.line s b ≡ []

  -- REFUSALS, at any state: a refused call alters nothing.
  pub record RefusedAltersNothing (s : S) (i b : ℕ) : Type 0 where
    pub lays : (z : Sizes) (a : ℕ) → is_err (k.lays s z a).answer ≡ true → (k.lays s z a).after ≡ s
    pub asks : is_err (k.asks s i b).answer ≡ true → (k.asks s i b).after ≡ s
    pub pushes : is_err (k.pushes s i b).answer ≡ true → (k.pushes s i b).after ≡ s
    pub leaves : is_err (k.leaves s i b).answer ≡ true → (k.leaves s i b).after ≡ s

  -- A call changes neither the sizes nor the lengths.
  pub record Kept (s t : S) : Type 0 where
    pub sizes : k.sizes t ≡ k.sizes s
    pub fit : fit k t ≡ fit k s

  pub record CallsKeepSizes (s : S) (i b : ℕ) : Type 0 where
    pub asks : Kept s (k.asks s i b).after
    pub pushes : Kept s (k.pushes s i b).after
    pub leaves : Kept s (k.leaves s i b).after

  -- At any state whose memory has other lengths, every call but layout is refused by 1.
  pub record UnfitIsRefused (s : S) (i b : ℕ) : Type 0 where
    pub asks : (k.asks s i b).answer ≡ Err bad_size
    pub pushes : (k.pushes s i b).answer ≡ Err bad_size
    pub leaves : (k.leaves s i b).answer ≡ Err bad_size
    pub peeks : k.peeks s b ≡ Err bad_size
    pub counts : k.counts s i ≡ Err bad_size

  -- In a reached state each call but layout is refused by 2, 3 or 10 exactly as told, and is granted otherwise: no call
  -- but layout is refused by 1 or 9.
  pub record AskRule (s : S) (i b : ℕ) : Type 0 where
    pub no_session : sessions k s ≤ i → (k.asks s i b).answer ≡ Err (no_session i)
    pub no_bin : i < sessions k s → bins k s ≤ b → (k.asks s i b).answer ≡ Err (no_bin b)
    pub asker :
        i < sessions k s → b < bins k s →
        (c : ℕ) → c < bins k s → k.askers s c i ≡ true → (k.asks s i b).answer ≡ Err (out_of_turn i)
    pub granted :
        i < sessions k s → b < bins k s →
        ((c : ℕ) → c < bins k s → k.askers s c i ≡ false) → is_ok (k.asks s i b).answer ≡ true

  pub record PushRule (s : S) (i b : ℕ) : Type 0 where
    pub no_session : sessions k s ≤ i → (k.pushes s i b).answer ≡ Err (no_session i)
    pub no_bin : i < sessions k s → bins k s ≤ b → (k.pushes s i b).answer ≡ Err (no_bin b)
    pub stranger :
        i < sessions k s → b < bins k s → k.askers s b i ≡ false → (k.pushes s i b).answer ≡ Err (out_of_turn i)
    pub inside :
        i < sessions k s → b < bins k s → k.inside s b ≡ Some i → (k.pushes s i b).answer ≡ Err (out_of_turn i)
    pub granted :
        i < sessions k s → b < bins k s → k.askers s b i ≡ true → (k.inside s b ≢ Some i) →
        is_ok (k.pushes s i b).answer ≡ true

  pub record LeaveRule (s : S) (i b : ℕ) : Type 0 where
    pub no_session : sessions k s ≤ i → (k.leaves s i b).answer ≡ Err (no_session i)
    pub no_bin : i < sessions k s → bins k s ≤ b → (k.leaves s i b).answer ≡ Err (no_bin b)
    pub not_inside :
        i < sessions k s → b < bins k s → (k.inside s b ≢ Some i) → (k.leaves s i b).answer ≡ Err (out_of_turn i)
    pub granted :
        i < sessions k s → b < bins k s → k.inside s b ≡ Some i → is_ok (k.leaves s i b).answer ≡ true

  pub record PeekRule (s : S) (b : ℕ) : Type 0 where
    pub no_bin : bins k s ≤ b → k.peeks s b ≡ Err (no_bin b)
    pub granted : b < bins k s → k.peeks s b ≡ Ok (k.mark s b, k.calm s b)

  -- Ahead tells how many stand before a session in its line; none for one in no line, and over a kind without lines.
  pub record AheadRule (s : S) (i : ℕ) : Type 0 where
    pub no_session : sessions k s ≤ i → k.counts s i ≡ Err (no_session i)
    pub in_no_line :
        i < sessions k s → ((b : ℕ) → b < bins k s → k.askers s b i ≡ false) → k.counts s i ≡ Ok None
    pub without_lines : k.fair ≡ false → i < sessions k s → k.counts s i ≡ Ok None
    pub those_before :
        k.fair ≡ true → i < sessions k s →
        (b : ℕ) (front rest : List ℕ) → b < bins k s → k.line s b ≡ front ++ (i ∷ rest) →
        k.counts s i ≡ Ok (Some (length front))

  -- What an ask, a push and a leave of session i at bin b do, from s to t. Exactly the answer in is an entry, exactly
  -- the answer out takes the session off the askers, and no call does either to another session.
  pub record AskEffect (s t : S) (i b : ℕ) : Type 0 where
    pub joins : (j : ℕ) → k.askers t b j ≡ (j == i || k.askers s b j)
    pub in_enters : (k.asks s i b).answer ≡ Ok EntersAtOnce → Entry k s t i b
    pub not_yet_enters_nobody : (k.asks s i b).answer ≡ Ok NotYet → NoEntry k s t b
    pub other_bins_keep_all : (c : ℕ) → c < bins k s → (c ≢ b) → Same k s t c

  pub record PushEffect (s t : S) (i b : ℕ) : Type 0 where
    pub waits_alters_nothing : (k.pushes s i b).answer ≡ Ok Waits → k.effective t ≡ k.effective s
    pub waits_keeps_all : (k.pushes s i b).answer ≡ Ok Waits → (c : ℕ) → Same k s t c
    pub moved_enters_nobody : (k.pushes s i b).answer ≡ Ok Moved → NoEntry k s t b
    pub in_enters : (k.pushes s i b).answer ≡ Ok In → Entry k s t i b
    pub out_had_left : (k.pushes s i b).answer ≡ Ok Out → k.leaving s b i ≡ true
    pub out_keeps_inside : (k.pushes s i b).answer ≡ Ok Out → k.inside t b ≡ k.inside s b
    pub out_keeps_age : (k.pushes s i b).answer ≡ Ok Out → k.age t b ≡ k.age s b
    pub out_takes_off :
        (k.pushes s i b).answer ≡ Ok Out → (j : ℕ) → k.askers t b j ≡ (not (j == i) && k.askers s b j)
    pub out_ends_leaving :
        (k.pushes s i b).answer ≡ Ok Out → (j : ℕ) → k.leaving t b j ≡ (not (j == i) && k.leaving s b j)
    pub others_stay : ((k.pushes s i b).answer ≢ Ok Out) → (j : ℕ) → k.askers t b j ≡ k.askers s b j
    pub other_bins_keep_all : (c : ℕ) → c < bins k s → (c ≢ b) → Same k s t c

  pub record LeaveEffect (s t : S) (i b : ℕ) : Type 0 where
    pub nobody_inside : k.inside t b ≡ None
    pub keeps_age : k.age t b ≡ k.age s b
    pub out_takes_off :
        (k.leaves s i b).answer ≡ Ok OutAtOnce → (j : ℕ) → k.askers t b j ≡ (not (j == i) && k.askers s b j)
    pub out_leaves_nobody :
        (k.leaves s i b).answer ≡ Ok OutAtOnce → (j : ℕ) → k.leaving t b j ≡ k.leaving s b j
    pub moved_stays_asker :
        (k.leaves s i b).answer ≡ Ok StillLeaving → (j : ℕ) → k.askers t b j ≡ k.askers s b j
    pub moved_is_leaving :
        (k.leaves s i b).answer ≡ Ok StillLeaving → (j : ℕ) → k.leaving t b j ≡ (j == i || k.leaving s b j)
    pub other_bins_keep_all : (c : ℕ) → c < bins k s → (c ≢ b) → Same k s t c

  -- A MARK changes only in an ask, a push or a leave at its bin, and only in one that is granted and does not wait.
  pub record MarkRule (s : S) (i b c : ℕ) : Type 0 where
    pub asks_elsewhere : (c ≢ b) → k.mark (k.asks s i b).after c ≡ k.mark s c
    pub asks_refused : is_err (k.asks s i b).answer ≡ true → k.mark (k.asks s i b).after c ≡ k.mark s c
    pub pushes_elsewhere : (c ≢ b) → k.mark (k.pushes s i b).after c ≡ k.mark s c
    pub pushes_refused : is_err (k.pushes s i b).answer ≡ true → k.mark (k.pushes s i b).after c ≡ k.mark s c
    pub pushes_waits : (k.pushes s i b).answer ≡ Ok Waits → k.mark (k.pushes s i b).after c ≡ k.mark s c
    pub leaves_elsewhere : (c ≢ b) → k.mark (k.leaves s i b).after c ≡ k.mark s c
    pub leaves_refused : is_err (k.leaves s i b).answer ≡ true → k.mark (k.leaves s i b).after c ≡ k.mark s c

  -- FAIR KINDS
  pub record LineMeaning (s : S) (b : ℕ) : Type 0 where
    pub holds_the_askers : (i : ℕ) → k.askers s b i ≡ has i (k.line s b)
    pub only_first_inside : (i : ℕ) → k.inside s b ≡ Some i → (rest : List ℕ) × (k.line s b ≡ i ∷ rest)
    pub only_first_leaving : (i : ℕ) → k.leaving s b i ≡ true → (rest : List ℕ) × (k.line s b ≡ i ∷ rest)

  -- no session but i may need more pushes than before
  abbrev pub NoOtherNeedsMore : S → S → ℕ → Type 0
  NoOtherNeedsMore s t i = (j : ℕ) → (j ≢ i) → k.needed t j ≤ k.needed s j

  pub record FairAsk (s t : S) (i b : ℕ) : Type 0 where
    pub lines_up_last : k.line t b ≡ k.line s b ++ (i ∷ [])
    pub empty_line_enters : k.line s b ≡ [] → (k.asks s i b).answer ≡ Ok EntersAtOnce
    pub others_enter_later : (k.line s b ≢ []) → (k.asks s i b).answer ≡ Ok NotYet
    pub few_pushes_needed : k.needed t i ≤ k.entry_pushes
    pub no_other_needs_more : NoOtherNeedsMore s t i

  pub record FairPush (s t : S) (i b : ℕ) : Type 0 where
    pub fewer_needed : ((k.pushes s i b).answer ≢ Ok Waits) → k.needed t i < k.needed s i
    pub no_other_needs_more : NoOtherNeedsMore s t i
    pub line_stays : ((k.pushes s i b).answer ≢ Ok Out) → k.line t b ≡ k.line s b
    pub out_goes_first : (k.pushes s i b).answer ≡ Ok Out → k.line s b ≡ i ∷ k.line t b
    pub first_does_not_wait :
        (rest : List ℕ) → k.line s b ≡ i ∷ rest → k.leaving s b i ≡ false → (k.pushes s i b).answer ≢ Ok Waits
    pub leaver_waits_for_second :
        k.leaving s b i ≡ true → (k.pushes s i b).answer ≡ Ok Waits →
        (j : ℕ) × (rest : List ℕ) × (k.line s b ≡ i ∷ (j ∷ rest)) × ((k.pushes s j b).answer ≢ Ok Waits)

  pub record FairLeave (s t : S) (i b : ℕ) : Type 0 where
    pub few_pushes_needed : k.needed t i ≤ k.exit_pushes
    pub no_other_needs_more : NoOtherNeedsMore s t i
    pub line_stays : (k.leaves s i b).answer ≡ Ok StillLeaving → k.line t b ≡ k.line s b
    pub out_goes_first : (k.leaves s i b).answer ≡ Ok OutAtOnce → k.line s b ≡ i ∷ k.line t b

  pub record Fair : Type 0 where
    pub lines : (s : S) (b : ℕ) → Reached k s → b < bins k s → LineMeaning s b
    pub ask : (s : S) (i b : ℕ) → Reached k s → joined (k.asks s i b).answer ≡ true → FairAsk s (k.asks s i b).after i b
    pub push : (s : S) (i b : ℕ) → Reached k s → is_ok (k.pushes s i b).answer ≡ true → FairPush s (k.pushes s i b).after i b
    pub leave : (s : S) (i b : ℕ) → Reached k s → is_ok (k.leaves s i b).answer ≡ true → FairLeave s (k.leaves s i b).after i b

  -- THE EFFECTIVE STATE decides: states that agree on it mean the same, answer alike and go on alike.
  pub record Alike (s t : S) (i b : ℕ) : Type 0 where
    pub kept : Kept s t
    pub same : Same k s t b
    pub needed : k.needed t i ≡ k.needed s i
    pub asks_answer : (k.asks t i b).answer ≡ (k.asks s i b).answer
    pub asks_after : k.effective (k.asks t i b).after ≡ k.effective (k.asks s i b).after
    pub pushes_answer : (k.pushes t i b).answer ≡ (k.pushes s i b).answer
    pub pushes_after : k.effective (k.pushes t i b).after ≡ k.effective (k.pushes s i b).after
    pub leaves_answer : (k.leaves t i b).answer ≡ (k.leaves s i b).answer
    pub leaves_after : k.effective (k.leaves t i b).after ≡ k.effective (k.leaves s i b).after
    pub peeks : k.peeks t b ≡ k.peeks s b
    pub counts : k.counts t i ≡ k.counts s i

  pub record Lawful : Type 0 where
    -- no kind is empty: there are ages, few nodes, and a state for any sizes within their limits
    pub some_age : 0 < k.modulus
    pub few_nodes : (z : Sizes) → within_limits z ≡ true → k.nodes z ≤ 1024
    pub some_state : (z : Sizes) → within_limits z ≡ true → (s : S) × (k.fits s z ≡ true)
    -- at any state
    pub layout_rule : (s : S) (z : Sizes) (a : ℕ) → LayoutRule s z a
    pub laid_out :
        (s : S) (z : Sizes) (a : ℕ) → is_ok (k.lays s z a).answer ≡ true → LaidOut (k.lays s z a).after z a
    pub laid_out_alike :
        (s t : S) (z : Sizes) (a : ℕ) → is_ok (k.lays s z a).answer ≡ true → is_ok (k.lays t z a).answer ≡ true →
        k.effective (k.lays t z a).after ≡ k.effective (k.lays s z a).after
    pub effective_decides : (s t : S) (i b : ℕ) → k.effective t ≡ k.effective s → Alike s t i b
    pub refused_alters_nothing : (s : S) (i b : ℕ) → RefusedAltersNothing s i b
    pub calls_keep_sizes : (s : S) (i b : ℕ) → CallsKeepSizes s i b
    pub unfit_is_refused : (s : S) (i b : ℕ) → fit k s ≡ false → UnfitIsRefused s i b
    -- at every state that layout made and only the kind's calls changed
    pub reached_is_fit : (s : S) → Reached k s → fit k s ≡ true
    pub bin_meaning : (s : S) (b : ℕ) → Reached k s → b < bins k s → BinMeaning s b
    pub asker_exists : (s : S) (i b : ℕ) → Reached k s → AskerExists s i b
    pub ask_rule : (s : S) (i b : ℕ) → Reached k s → AskRule s i b
    pub push_rule : (s : S) (i b : ℕ) → Reached k s → PushRule s i b
    pub leave_rule : (s : S) (i b : ℕ) → Reached k s → LeaveRule s i b
    pub peek_rule : (s : S) (b : ℕ) → Reached k s → PeekRule s b
    pub ahead_rule : (s : S) (i : ℕ) → Reached k s → AheadRule s i
    pub ask_effect :
        (s : S) (i b : ℕ) → Reached k s → joined (k.asks s i b).answer ≡ true → AskEffect s (k.asks s i b).after i b
    pub push_effect :
        (s : S) (i b : ℕ) → Reached k s → is_ok (k.pushes s i b).answer ≡ true → PushEffect s (k.pushes s i b).after i b
    pub leave_effect :
        (s : S) (i b : ℕ) → Reached k s → is_ok (k.leaves s i b).answer ≡ true → LeaveEffect s (k.leaves s i b).after i b
    pub mark_rule : (s : S) (i b c : ℕ) → Reached k s → c < bins k s → MarkRule s i b c
    -- and of kinds that say they are fair
    pub fair : k.fair ≡ true → Fair
