-- What a state with the invariant means at each bin.
use Rattle.std.specs.Prelude.{◌≡◌, ℕ, ◌^◌, ◌<◌, ◌≤◌, true, false, Some, None, refl}
use Rattle.std.proofs.Common.{sym, ◌∙◌, arith}
use Rattle.std.proofs.lemmas.Bool.{eqb-true, eq-eqb, ltb-true, lt-ltb, le-ltb, true≢false, false≢true, cond-true, cond-false, cond_both}
use Rattle.bank.specs.Claims.{at_stage, askers}
use Rattle.bank.specs.Laws.{BinMeaning, AskerExists}
use Rattle.bank.specs.Locks.{word_at}
use Rattle.bank.proofs.Askers.{one_bin, asker_session, asker_in_range}
use Rattle.bank.proofs.Claims.{found_none, found_one, claim_asker, inside_claim}
use Rattle.central.specs.Meaning.{inside}
use Rattle.central.specs.State.{State, bins_of, entered}
use Rattle.central.specs.Word.{lock_bit, unlocked, released, age_of}
use Rattle.central.specs.Invariant.{Invariant, BinState, free, held, holds, no_holder, one_holder}
use Rattle.central.specs.Reachable.{central}

-- THE AGE of a word
pub age_unlocked : (w : ℕ) → w < lock_bit → age_of w ≡ w
age_unlocked w l = cond-true (unlocked w) w (released w) (lt-ltb w lock_bit l)

pub age_locked : (w : ℕ) → lock_bit ≤ w → age_of w ≡ released w
age_locked w l = cond-false (unlocked w) w (released w) (le-ltb w lock_bit l)

age_below : (w : ℕ) → age_of w < lock_bit
age_below w = cond_both (unlocked w) w (released w) (λ a. a < lock_bit) (ltb-true w lock_bit) (λ e. omega arith)

-- THE ONE INSIDE a bin is the session that has entered it
pub holds_inside : (s : State) (b i : ℕ) → Invariant s → b < bins_of s → holds s b i ≡ true → inside s b ≡ Some i
holds_inside s b i I h e =
    let o = one_holder (word_at s b) (holds s b) i (I.bin b h) e in
    found_one (at_stage entered b) s.memory.records i e (λ j f. eqb-true j i (sym (o.1 j) ∙ f))

pub none_inside : (s : State) (b : ℕ) → ((j : ℕ) → holds s b j ≡ false) → inside s b ≡ None
none_inside s b h = found_none (at_stage entered b) 0 s.memory.records h

pub bin_meaning : (s : State) (b : ℕ) → Invariant s → b < bins_of s → BinMeaning central s b
bin_meaning s b I h =
    record {
      calm_read_off_mark = refl;
      age_read_off_calm_mark = λ e. refl;
      age_below_modulus = age_below (word_at s b);
      mark_fits = mark_fits (I.bin b h);
      calm_has_nobody_inside =
          λ e.
          let l = ltb-true (word_at s b) lock_bit e in
          none_inside s b (no_holder (word_at s b) (holds s b) (I.bin b h) l);
      unasked_is_calm = unasked_is_calm (I.bin b h);
      inside_is_asker = λ i e. let w = inside_claim entered s b i e in (claim_asker s b i w.0 w.1 w.2, refl);
      leaving_is_asker = λ i e. absurd (false≢true e);
      asks_at_one_bin = λ i c. one_bin s b c i;
    }
  where
    mark_fits : BinState (word_at s b) (holds s b) → word_at s b < 2 ^ 64
    mark_fits (free l n) = omega arith
    mark_fits (held i l k n) = k

    unasked_is_calm :
        BinState (word_at s b) (holds s b) → ((i : ℕ) → askers s b i ≡ false) → unlocked (word_at s b) ≡ true
    unasked_is_calm (free l n) u = lt-ltb (word_at s b) lock_bit l
    unasked_is_calm (held i l k n) u =
        let w = inside_claim entered s b i (holds_inside s b i I h (n i ∙ eq-eqb i i refl)) in
        absurd (true≢false (sym (claim_asker s b i w.0 w.1 w.2) ∙ u i))

pub asker_exists : (s : State) (i b : ℕ) → Invariant s → AskerExists central s i b
asker_exists s i b I =
    record {
      session = asker_session s 0 s.bank.sizes b i I.fit;
      bin = asker_in_range s (bins_of s) b i (I.ranged i);
    }
