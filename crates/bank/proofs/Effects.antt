-- What the laws ask of a granted call, told by its answer, for any kind: a kind shows what its answer means, and the laws
-- about the other answers follow.
use Rattle.std.proofs.Common.{◌≡◌, ℕ, ◌<◌, true, false, not, ◌&&◌, ◌||◌, eqb, List, ◌∷◌, None, Ok}
use Rattle.bank.specs.Kind.{Kind, Same, Entry, NoEntry, bins}
use Rattle.bank.specs.Laws.{AskEffect, PushEffect, LeaveEffect, NoOtherNeedsMore, FairPush}
use Rattle.bank.specs.declared.answers.AskAnswer.TheVariants.{In as EntersAtOnce, NotYet}
use Rattle.bank.specs.declared.answers.LeaveAnswer.TheVariants.{Moved as StillLeaving}
use Rattle.bank.specs.declared.answers.PushAnswer.{PushAnswer}
use Rattle.bank.specs.declared.answers.PushAnswer.TheVariants.{Waits, Moved, In, Out}

-- a call of session i at bin b, from s to t
module _ {S : Type 0} (k : Kind S) (s t : S) (i b : ℕ) where
  abbrev pub OtherBinsKeepAll : Type 0
  OtherBinsKeepAll = (c : ℕ) → c < bins k s → (c ≡ b → ⊥) → Same k s t c

  abbrev pub AskersStay : Type 0
  AskersStay = (j : ℕ) → k.askers t b j ≡ k.askers s b j

  -- ASK
  pub ask_enters :
      (k.asks s i b).answer ≡ Ok EntersAtOnce → ((j : ℕ) → k.askers t b j ≡ (eqb j i || k.askers s b j)) →
      Entry k s t i b → OtherBinsKeepAll → AskEffect k s t i b
  ask_enters a joins entry others =
      record {
        joins = joins;
        in_enters = λ _. entry;
        not_yet_enters_nobody = λ e. cc;
        other_bins_keep_all = others;
      }

  pub ask_lines_up :
      (k.asks s i b).answer ≡ Ok NotYet → ((j : ℕ) → k.askers t b j ≡ (eqb j i || k.askers s b j)) →
      NoEntry k s t b → OtherBinsKeepAll → AskEffect k s t i b
  ask_lines_up a joins none others =
      record {
        joins = joins;
        in_enters = λ e. cc;
        not_yet_enters_nobody = λ _. none;
        other_bins_keep_all = others;
      }

  -- PUSH
  pub push_waits :
      (k.pushes s i b).answer ≡ Ok Waits → k.effective t ≡ k.effective s → ((c : ℕ) → Same k s t c) →
      PushEffect k s t i b
  push_waits a same all =
      record {
        waits_alters_nothing = λ _. same;
        waits_keeps_all = λ _. all;
        moved_enters_nobody = λ e. cc;
        in_enters = λ e. cc;
        out_had_left = λ e. cc;
        out_keeps_inside = λ e. cc;
        out_keeps_age = λ e. cc;
        out_takes_off = λ e. cc;
        out_ends_leaving = λ e. cc;
        others_stay = λ _. (all b).askers;
        other_bins_keep_all = λ c _ _. all c;
      }

  pub push_moves :
      (k.pushes s i b).answer ≡ Ok Moved → NoEntry k s t b → AskersStay → OtherBinsKeepAll → PushEffect k s t i b
  push_moves a none stay others =
      record {
        waits_alters_nothing = λ e. cc;
        waits_keeps_all = λ e. cc;
        moved_enters_nobody = λ _. none;
        in_enters = λ e. cc;
        out_had_left = λ e. cc;
        out_keeps_inside = λ e. cc;
        out_keeps_age = λ e. cc;
        out_takes_off = λ e. cc;
        out_ends_leaving = λ e. cc;
        others_stay = λ _. stay;
        other_bins_keep_all = others;
      }

  pub push_enters :
      (k.pushes s i b).answer ≡ Ok In → Entry k s t i b → AskersStay → OtherBinsKeepAll → PushEffect k s t i b
  push_enters a entry stay others =
      record {
        waits_alters_nothing = λ e. cc;
        waits_keeps_all = λ e. cc;
        moved_enters_nobody = λ e. cc;
        in_enters = λ _. entry;
        out_had_left = λ e. cc;
        out_keeps_inside = λ e. cc;
        out_keeps_age = λ e. cc;
        out_takes_off = λ e. cc;
        out_ends_leaving = λ e. cc;
        others_stay = λ _. stay;
        other_bins_keep_all = others;
      }

  -- session i, which had left, is an asker of bin b no more
  pub record Exit : Type 0 where
    pub had_left : k.leaving s b i ≡ true
    pub inside : k.inside t b ≡ k.inside s b
    pub age : k.age t b ≡ k.age s b
    pub askers : (j : ℕ) → k.askers t b j ≡ (not (eqb j i) && k.askers s b j)
    pub leaving : (j : ℕ) → k.leaving t b j ≡ (not (eqb j i) && k.leaving s b j)

  pub push_exits : (k.pushes s i b).answer ≡ Ok Out → Exit → OtherBinsKeepAll → PushEffect k s t i b
  push_exits a exit others =
      record {
        waits_alters_nothing = λ e. cc;
        waits_keeps_all = λ e. cc;
        moved_enters_nobody = λ e. cc;
        in_enters = λ e. cc;
        out_had_left = λ _. exit.had_left;
        out_keeps_inside = λ _. exit.inside;
        out_keeps_age = λ _. exit.age;
        out_takes_off = λ _. exit.askers;
        out_ends_leaving = λ _. exit.leaving;
        others_stay = λ n. absurd (n a);
        other_bins_keep_all = others;
      }

  -- a push of a fair kind that advances the session, but not out
  pub fair_advances :
      (x : PushAnswer) → (x ≡ Waits → ⊥) → (x ≡ Out → ⊥) → (k.pushes s i b).answer ≡ Ok x →
      k.needed t i < k.needed s i → NoOtherNeedsMore k s t i → k.line t b ≡ k.line s b → FairPush k s t i b
  fair_advances x not_waits not_out a fewer others stays =
      record {
        fewer_needed = λ _. fewer;
        no_other_needs_more = others;
        line_stays = λ _. stays;
        out_goes_first = λ e. absurd (not_out (cc));
        first_does_not_wait = λ rest _ l e. not_waits (cc);
        leaver_waits_for_second = λ l e. absurd (not_waits (cc));
      }

  pub fair_exits :
      (k.pushes s i b).answer ≡ Ok Out → k.needed t i < k.needed s i → NoOtherNeedsMore k s t i →
      k.line s b ≡ i ∷ k.line t b → FairPush k s t i b
  fair_exits a fewer others first =
      record {
        fewer_needed = λ _. fewer;
        no_other_needs_more = others;
        line_stays = λ n. absurd (n a);
        out_goes_first = λ _. first;
        first_does_not_wait = λ rest _ l e. cc;
        leaver_waits_for_second = λ l e. cc;
      }

  pub fair_waits :
      (k.pushes s i b).answer ≡ Ok Waits → NoOtherNeedsMore k s t i → k.line t b ≡ k.line s b →
      ((rest : List ℕ) → k.line s b ≡ i ∷ rest → k.leaving s b i ≡ false → ⊥) →
      (k.leaving s b i ≡ true →
      (j : ℕ) × (rest : List ℕ) × (k.line s b ≡ i ∷ (j ∷ rest)) × ((k.pushes s j b).answer ≡ Ok Waits → ⊥)) →
      FairPush k s t i b
  fair_waits a others stays not_first second =
      record {
        fewer_needed = λ n. absurd (n a);
        no_other_needs_more = others;
        line_stays = λ _. stays;
        out_goes_first = λ e. cc;
        first_does_not_wait = λ rest e l _. not_first rest e l;
        leaver_waits_for_second = λ l _. second l;
      }

  -- LEAVE
  pub leave_moves :
      (k.leaves s i b).answer ≡ Ok StillLeaving → k.inside t b ≡ None → k.age t b ≡ k.age s b → AskersStay →
      ((j : ℕ) → k.leaving t b j ≡ (eqb j i || k.leaving s b j)) → OtherBinsKeepAll → LeaveEffect k s t i b
  leave_moves a nobody age stay leaving others =
      record {
        nobody_inside = nobody;
        keeps_age = age;
        out_takes_off = λ e. cc;
        out_leaves_nobody = λ e. cc;
        moved_stays_asker = λ _. stay;
        moved_is_leaving = λ _. leaving;
        other_bins_keep_all = others;
      }
