-- What the checks of a call show, and when they pass.
use Rattle.std.proofs.Common.{◌≡◌, ℕ, ◌<◌, ◌≤◌, Bool, true, false, cond, length, get_or, Some, None, Ok, Err, Option, Result, sym, refl, ap, ◌∙◌, arith}
use Rattle.std.proofs.lemmas.Bool.{lt-ltb, le-ltb, eqb-true, cond_both}
use Rattle.std.proofs.lemmas.Bool.Decides.{nat_tests}
use Rattle.bank.specs.Claims.{claim, at}
use Rattle.bank.specs.Memory.{Lent, has_lengths, admits, admits_session, admits_bin, in_range, checked_record, own_record, stage_at, own_stage}
use Rattle.bank.specs.Refusals.{bad_size, no_session, no_bin, bad_record, out_of_turn}
use Rattle.bank.specs.declared.memory.Claim.{Claim}
use Rattle.bank.specs.declared.memory.Sizes.{Sizes}
use Rattle.bank.specs.declared.refusals.Fault.{Fault}

module _ {R : Type 0} (told : ℕ) (z : Sizes) (mem : Lent R) where
  -- memory of the lengths told
  pub record Sized : Type 0 where
    pub some_sessions : 0 < z.sessions
    pub few_sessions : z.sessions ≤ 1024
    pub some_bins : 0 < z.bins
    pub few_bins : z.bins ≤ 4096
    pub words : length mem.words ≡ z.bins
    pub records : length mem.records ≡ z.sessions
    pub nodes : length mem.nodes ≡ told

  pub sized : has_lengths told z mem ≡ true → Sized
  sized e =
      record {
        some_sessions = grind (arith, nat_tests);
        few_sessions = grind (arith, nat_tests);
        some_bins = grind (arith, nat_tests);
        few_bins = grind (arith, nat_tests);
        words = grind (arith, nat_tests);
        records = grind (arith, nat_tests);
        nodes = grind (arith, nat_tests);
      }

  -- a call past the refusals 1, 2 and 3
  pub record Admitted (i b : ℕ) : Type 0 where
    pub fit : has_lengths told z mem ≡ true
    pub session : i < z.sessions
    pub bin : b < z.bins

  pub admitted : (i b : ℕ) (u : Unit {0}) → admits told z mem i b ≡ Ok u → Admitted i b
  admitted i b u e = record { fit = grind (arith, nat_tests); session = grind (arith, nat_tests); bin = grind (arith, nat_tests) }

  -- a question about a session
  pub session_unfit : (i : ℕ) → has_lengths told z mem ≡ false → admits_session told z mem i ≡ Err bad_size
  session_unfit i e = rw e

  pub session_missing :
      (i : ℕ) → has_lengths told z mem ≡ true → z.sessions ≤ i → admits_session told z mem i ≡ Err (no_session i)
  session_missing i e h = rw (e, le-ltb i z.sessions h)

  pub session_there : (i : ℕ) → has_lengths told z mem ≡ true → i < z.sessions → admits_session told z mem i ≡ Ok tt
  session_there i e h = rw (e, lt-ltb i z.sessions h)

  -- a question about a bin
  pub bin_unfit : (b : ℕ) → has_lengths told z mem ≡ false → admits_bin told z mem b ≡ Err bad_size
  bin_unfit b e = rw e

  pub bin_missing : (b : ℕ) → has_lengths told z mem ≡ true → z.bins ≤ b → admits_bin told z mem b ≡ Err (no_bin b)
  bin_missing b e h = rw (e, le-ltb b z.bins h)

  pub bin_there : (b : ℕ) → has_lengths told z mem ≡ true → b < z.bins → admits_bin told z mem b ≡ Ok tt
  bin_there b e h = rw (e, lt-ltb b z.bins h)

-- the caller's own record
module _ {T : Type 0} (told : ℕ) (z : Sizes) (mem : Lent (Option (Claim T))) where
  -- a call past the refusals 1, 2 and 3 whose own record r is in range
  pub record Own (i b : ℕ) (r : Option (Claim T)) : Type 0 where
    pub admitted : Admitted told z mem i b
    pub read : get_or mem.records i None ≡ r
    pub ranged : in_range z.bins r ≡ true

  pub owned : (i b : ℕ) (r : Option (Claim T)) → own_record told z mem i b ≡ Ok r → Own i b r
  owned i b r e = go (admits told z mem i b) refl e
    where
      inner :
          (u : Unit {0}) → admits told z mem i b ≡ Ok u → (t : Bool) → in_range z.bins (get_or mem.records i None) ≡ t →
          cond t (Ok (get_or mem.records i None)) (Err (bad_record i)) ≡ Ok r → Own i b r
      inner u p true q f =
          let same : get_or mem.records i None ≡ r = cc in
          record { admitted = admitted told z mem i b u p; read = same; ranged = sym (ap (in_range z.bins) same) ∙ q }
      inner u p false q f = let no : ◌≡◌ {A = ℕ} 0 1 = cc in absurd (omega arith)

      go :
          (a : Result (Unit {0}) Fault) → admits told z mem i b ≡ a →
          checked_record a z.bins i (get_or mem.records i None) ≡ Ok r → Own i b r
      go (Ok u) p f = inner u p (in_range z.bins (get_or mem.records i None)) refl f
      go (Err x) p f = let no : ◌≡◌ {A = ℕ} 0 1 = cc in absurd (omega arith)

  pub own_unfit : (i b : ℕ) → has_lengths told z mem ≡ false → own_record told z mem i b ≡ Err bad_size
  own_unfit i b e = rw e

  pub own_no_session :
      (i b : ℕ) → has_lengths told z mem ≡ true → z.sessions ≤ i → own_record told z mem i b ≡ Err (no_session i)
  own_no_session i b e h = rw (e, le-ltb i z.sessions h)

  pub own_no_bin :
      (i b : ℕ) → has_lengths told z mem ≡ true → i < z.sessions → z.bins ≤ b → own_record told z mem i b ≡ Err (no_bin b)
  own_no_bin i b e h k = rw (e, lt-ltb i z.sessions h, le-ltb b z.bins k)

  pub own_there :
      (i b : ℕ) → has_lengths told z mem ≡ true → i < z.sessions → b < z.bins →
      in_range z.bins (get_or mem.records i None) ≡ true → own_record told z mem i b ≡ Ok (get_or mem.records i None)
  own_there i b e h k q = rw (e, lt-ltb i z.sessions h, lt-ltb b z.bins k, q)

  -- a call past the refusals 1, 2 and 3 of a session at stage g at the bin
  pub record At (i b : ℕ) (g : T) : Type 0 where
    pub admitted : Admitted told z mem i b
    pub read : get_or mem.records i None ≡ Some (claim b g)

  pub at_stage_of : {i b : ℕ} {c : Claim T} → Own i b (Some c) → c.bin ≡ b → At i b c.stage
  at_stage_of {c = c} o e = record { admitted = o.admitted; read = o.read ∙ ap (λ x. Some (claim x c.stage)) e }

  -- what is read of the caller's stage, or the call is refused
  pub stage_cases :
      (i b : ℕ) (P : Result T Fault → Type 0) → ((g : T) → At i b g → P (Ok g)) → ((f : Fault) → P (Err f)) →
      P (own_stage told z mem i b)
  stage_cases i b P present absent = go (own_record told z mem i b) refl
    where
      go : (a : Result (Option (Claim T)) Fault) → own_record told z mem i b ≡ a → P (stage_at a i b)
      go (Err f) e = absent f
      go (Ok None) e = absent (out_of_turn i)
      go (Ok (Some c)) e =
          let o = owned i b (Some c) e in
          cond_both
          (at b c)
          _
          _
          P
          (λ q. present c.stage (at_stage_of o (eqb-true c.bin b q)))
          (λ q. absent (out_of_turn i))
