-- At most one codeword is near enough to a received word, and the shortest recurrence tells which: with erasures, and without.
use Rattle.std.proofs.Common.{◌≡◌, ℕ, ◌+◌, ◌-◌, ◌<◌, ◌≤◌, Bool, true, ◌⊎◌, List, [], ◌∷◌, ◌++◌, length, Decides, sym, ap, ◌∙◌, subst, inl, inr, arith, length-append}
use Rattle.std.proofs.lemmas.Bool.{cases_lt}
use Rattle.std.proofs.lemmas.Bool.Decides.{not_from_Decides, Decides-not, Decides-like, same_from_decides}
use Rattle.field.specs.Polynomial.{value}
use Rattle.field.proofs.Ring.{Lawful, ring, eq_of_sum, no_divisor, mul_zero, zero_add}
use Rattle.polynomial.specs.Coefficients.{coeff, Same, times, Monic}
use Rattle.polynomial.specs.Sums.{Each, Distinct, psum}
use Rattle.polynomial.proofs.Entries.{coeff_past}
use Rattle.polynomial.proofs.Algebra.{value_times, value_same}
use Rattle.polynomial.proofs.Sums.{all_map, all_both, psum_zero}
use Rattle.code.specs.Code.{Code, Codeword}
use Rattle.generator.specs.Claims.{Fits}
use Rattle.generator.proofs.Gammas.{spreads}
use Rattle.locator.specs.Applied.{applied}
use Rattle.locator.specs.Recurrence.{Recurrence}
use Rattle.locator.specs.Located.{SumsOf, Locates}
use Rattle.locator.specs.Correction.{locator, Syndromes, Near, counted, root_places}
use Rattle.locator.specs.Erasures.{erased, Flags, distance_off, NearOff}
use Rattle.locator.specs.Claims.{Tells, Corrections, TellsOff, Erasures}
use Rattle.locator.proofs.Members.{In, all_in, all_each, all_append, all_front, all_back, distinct_append, member}
use Rattle.locator.proofs.Monics.{monic_same, monic_times, times_unit}
use Rattle.locator.proofs.Sequences.{applies, psum_append, applied_within, applied_psum}
use Rattle.locator.proofs.Locating.{decided, locates_none, no_other, simple, degree_is, located}
use Rattle.locator.proofs.Counts.{passing, length_passing, passing_all, passing_apart, not_passing, counted_same, differs, distance_counted}
use Rattle.locator.proofs.Changes.{amount}
use Rattle.locator.proofs.Erased.{length_erased, erased_flagged, erased_other, distance_erased, triangle}
use Rattle.locator.proofs.Accepted.{accepted_off, accepted}
use Rattle.locator.proofs.Repairs.{other_locator, locators_apart, scale_not_zero, syndrome_sums, root_listed, repaired_is}

module _ {K : Type 0} (F : Lawful K) (c : Code) (fits : Fits F.ops c) where
  open F.ops use {nought as 𝟎, unit as 𝟏, sum as ◌⊕◌, product as ◌⊗◌}

  infixl 60 ◌⊕◌
  infixl 70 ◌⊗◌
  pub one_off : (flags : List ℕ) → Flags c flags → (received v w : List K) → NearOff F.ops c flags received v → NearOff F.ops c flags received w → v ≡ w
  one_off flags good received v w hv hw =
      let length_of : (u : List K) → Codeword F.ops c u → length (erased F.ops flags u) ≡ length (erased F.ops flags received) = λ u h.
      length_erased F.ops flags u ∙ h.long ∙ sym hv.long ∙ sym (length_erased F.ops flags received) in
      let both = triangle F (erased F.ops flags received) (erased F.ops flags v) (erased F.ops flags w) (length_of v hv.codeword) (length_of w hw.codeword) in
      let all = distance_erased F.ops flags v w in
      (spreads F c fits).near v w hv.codeword hw.codeword (omega (arith, hv.close, hw.close))

  module _ (flags : List ℕ) (good : Flags c flags) (received w : List K) (near : NearOff F.ops c flags received w) where
    -- the test for errors, but for the flagged places
    test : ℕ → Bool
    test = differs F.ops (erased F.ops flags received) (erased F.ops flags w)

    abbrev Wrong : ℕ → Type 0
    Wrong i = coeff F.ops (erased F.ops flags received) i ≡ coeff F.ops (erased F.ops flags w) i → ⊥

    tested : (i : ℕ) → Decides (test i) (Wrong i)
    unfolding test
    tested i = Decides-not _ (F.laws.sameness _ _)

    places : List ℕ
    places = passing test c.symbols

    number : length places ≡ distance_off F.ops flags received w
    unfolding places test
    number =
        let e = length_erased F.ops flags received in
        length_passing test c.symbols
        ∙ ap (counted test) (sym near.long ∙ sym e)
        ∙ sym (distance_counted F.ops _ _ (e ∙ near.long ∙ sym near.codeword.long ∙ sym (length_erased F.ops flags w)))

    -- each of them is a place, and wrong; no other place is
    places_wrong : Each (λ i. (i < c.symbols) × Wrong i) places
    unfolding places
    places_wrong = all_map (λ i. (i < c.symbols) × (test i ≡ true)) _ (λ i h. (h.0, (tested i).0 h.1)) _ (passing_all test c.symbols)

    off_places : (i : ℕ) → i < c.symbols → Each (λ a. a ≡ i → ⊥) places → Wrong i → ⊥
    unfolding places
    off_places i l off bad = not_from_Decides (test i) (tested i) (not_passing test c.symbols i l off) bad

    places_inside : Each (λ i. i < c.symbols) places
    places_inside = all_map (λ i. (i < c.symbols) × Wrong i) _ (λ i h. h.0) places places_wrong

    places_apart : Distinct (λ i. i) places
    unfolding places
    places_apart = passing_apart test c.symbols

    not_flagged : (i : ℕ) → Wrong i → In i flags → ⊥
    not_flagged i bad m = bad (erased_flagged F.ops flags received i m ∙ sym (erased_flagged F.ops flags w i m))

    unflagged : (i : ℕ) → Wrong i → Each (λ a. a ≡ i → ⊥) flags
    unflagged i bad = go (member i flags)
      where
        go : In i flags ⊎ Each (λ a. a ≡ i → ⊥) flags → Each (λ a. a ≡ i → ⊥) flags
        go (inl m) = absurd (not_flagged i bad m)
        go (inr off) = off

    -- flagged and wrong places together
    inside : Each (λ i. i < c.symbols) (flags ++ places)
    inside = all_append (λ i. i < c.symbols) flags places good.inside places_inside

    apart : Distinct (λ i. i) (flags ++ places)
    apart =
        distinct_append (λ i. i) flags places good.apart places_apart
        (all_each (λ b. Each (λ a. a ≡ b → ⊥) places) flags
        (λ b m. all_map (λ i. (i < c.symbols) × Wrong i) (λ a. a ≡ b → ⊥) (λ a h e. not_flagged a h.1 (subst (λ z. In z flags) (sym e) m)) places places_wrong))

    agree : (i : ℕ) → Each (λ a. a ≡ i → ⊥) (flags ++ places) → coeff F.ops received i ≡ coeff F.ops w i
    agree i off = go (cases_lt i c.symbols) (decided F _ _)
      where
        go : (i < c.symbols) ⊎ (c.symbols ≤ i) → (coeff F.ops (erased F.ops flags received) i ≡ coeff F.ops (erased F.ops flags w) i) ⊎ Wrong i
            → coeff F.ops received i ≡ coeff F.ops w i
        go (inl l) (inl e) =
            let clear = all_front (λ a. a ≡ i → ⊥) flags places off in
            sym (erased_other F.ops flags received i clear) ∙ e ∙ erased_other F.ops flags w i clear
        go (inl l) (inr bad) = absurd (off_places i l (all_back (λ a. a ≡ i → ⊥) flags places off) bad)
        go (inr l) d = coeff_past F.ops received i (omega (arith, near.long)) ∙ sym (coeff_past F.ops w i (omega (arith, near.codeword.long)))

    module _ (s : ℕ → K) (begins : Syndromes F.ops c received s) (flagged : List K) (locates : Locates F.ops (locator F.ops c) flags flagged)
        (t : ℕ → K) (is : (k : ℕ) → k < c.checks - length flags → t k ≡ applied F.ops flagged s k) where
      -- the values in the modified syndromes
      v : ℕ → K
      v i = amount F c received w i ⊗ value F.ops flagged (locator F.ops c i)

      modified : SumsOf F.ops t (c.checks - length flags) v (locator F.ops c) places
      unfolding v
      modified = record {
        apart = locators_apart F c fits places places_inside places_apart;
        sums = λ k l.
            is k l
            ∙ applied_within F flagged (length flags) locates.monic.above s (psum F.ops (amount F c received w) (locator F.ops c) (flags ++ places)) k
            (λ n h. (syndrome_sums F c fits received w near.long near.codeword (flags ++ places) inside apart agree s begins).sums n (omega arith))
            ∙ applied_psum F flagged (amount F c received w) (locator F.ops c) (flags ++ places) k
            ∙ psum_append F v (locator F.ops c) flags places k
            ∙ ap (λ z. z ⊕ psum F.ops v (locator F.ops c) places k)
            (psum_zero F v (locator F.ops c) flags k (all_map (λ a. value F.ops flagged (locator F.ops c a) ≡ 𝟎) _ (λ a e. ap (λ z. amount F c received w a ⊗ z) e ∙ mul_zero F _) flags locates.roots))
            ∙ zero_add F _;
      }

      some : Each (λ a. v a ≡ 𝟎 → ⊥) places
      unfolding v
      some = all_map (λ i. (i < c.symbols) × Wrong i) _ (λ a h e. go a h.0 h.1 e) places places_wrong
        where
          go : (a : ℕ) → a < c.symbols → Wrong a → amount F c received w a ⊗ value F.ops flagged (locator F.ops c a) ≡ 𝟎 → ⊥
          go a l bad e =
              let clear = unflagged a bad in
              bad (erased_other F.ops flags received a clear
              ∙ eq_of_sum F _ _ (no_divisor F _ _ (no_divisor F _ _ e (λ z. no_other F (locator F.ops c) flags (locators_apart F c fits flags good.inside good.apart) flagged locates (locator F.ops c a) z
              (all_both (λ b. b < c.symbols) (λ b. b ≡ a → ⊥) _ (λ b m n. other_locator F c fits b a m l n) flags good.inside clear))) (scale_not_zero F c fits a))
              ∙ sym (erased_other F.ops flags w a clear))

      room : length places + length places ≤ c.checks - length flags
      room = omega (arith, number, near.close)

      module _ (poly : List K) (degree : ℕ) (old : List K) (miss : K) (r : Recurrence F.ops t (c.checks - length flags) poly degree old miss)
          (all : List K) (same : Same F.ops all (times F.ops poly flagged)) where
        degree_wrong : degree ≡ length places
        degree_wrong = degree_is F (locator F.ops c) t (c.checks - length flags) v places modified some room poly degree old miss r

        of_poly : Locates F.ops (locator F.ops c) places poly
        of_poly = located F (locator F.ops c) t (c.checks - length flags) v places modified some room poly degree old miss r

        value_all : (y : K) → value F.ops all y ≡ value F.ops poly y ⊗ value F.ops flagged y
        value_all y = value_same F all (times F.ops poly flagged) same y ∙ value_times F poly flagged y

        of_all : Locates F.ops (locator F.ops c) (flags ++ places) all
        of_all = record {
          monic =
              let e : length places + length flags ≡ length (flags ++ places) = omega (arith, length-append flags places) in
              subst (Monic F.ops all) e (monic_same F _ all _ (λ i. sym (same i)) (monic_times F poly flagged (length places) (length flags) of_poly.monic locates.monic));
          roots =
              all_append (λ a. value F.ops all (locator F.ops c a) ≡ 𝟎) flags places
              (all_map _ _ (λ a e. value_all (locator F.ops c a) ∙ simp (e, ring)) flags locates.roots)
              (all_map _ _ (λ a e. value_all (locator F.ops c a) ∙ simp (e, ring)) places of_poly.roots);
        }

        counted_roots : root_places F.ops c poly c.symbols ≡ degree
        counted_roots = counted_same _ test c.symbols (λ i l. alike i l) ∙ sym (number') ∙ sym degree_wrong
          where
            number' : length places ≡ counted test c.symbols
            number' = unfold places in length_passing test c.symbols

            to : (i : ℕ) → i < c.symbols → Wrong i → In i places ⊎ Each (λ a. a ≡ i → ⊥) places → value F.ops poly (locator F.ops c i) ≡ 𝟎
            to i l bad (inl m) = all_in (λ a. value F.ops poly (locator F.ops c a) ≡ 𝟎) i places of_poly.roots m
            to i l bad (inr off) = absurd (off_places i l off bad)

            from : (i : ℕ) → i < c.symbols → value F.ops poly (locator F.ops c i) ≡ 𝟎 → Wrong i
            from i l root = (all_in (λ a. (a < c.symbols) × Wrong a) i places places_wrong (root_listed F c fits places places_inside places_apart poly of_poly i l root)).1

            alike : (i : ℕ) → i < c.symbols → F.ops.same (value F.ops poly (locator F.ops c i)) 𝟎 ≡ test i
            alike i l = same_from_decides _ (test i) (F.laws.sameness _ _) (Decides-like (test i) (λ bad. to i l bad (member i places)) (from i l) (tested i))

        pub tells_off : TellsOff F.ops c flags received w s poly degree all
        tells_off = record {
          errors = degree_wrong ∙ number;
          few = omega (arith, degree_wrong, number, near.close);
          count = counted_roots;
          simple = simple F (locator F.ops c) (flags ++ places) (locators_apart F c fits (flags ++ places) inside apart) all of_all;
          corrected =
              repaired_is F c fits received w near.long near.codeword (flags ++ places) inside apart agree s begins
              (omega (arith, length-append flags places, number, near.close)) all of_all;
        }

  pub erasures : Erasures F.ops c
  erasures = record {
    one = one_off;
    tells = tells_off;
    accepted = λ flags good flagged locates poly all same received after s long r. accepted_off F c fits flags good flagged poly all locates same received after long s r;
  }

  -- With no flags.
  plain : Flags c []
  plain = record { inside = tt; apart = tt }

  pub near_plain : (received w : List K) → Near F.ops c received w → NearOff F.ops c [] received w
  unfolding erased
  near_plain received w h = record { long = h.long; codeword = h.codeword; close = omega (arith, h.close) }

  pub tells : (received w : List K) → Near F.ops c received w → (t : ℕ → K) → Syndromes F.ops c received t
      → (poly : List K) (degree : ℕ) (old : List K) (miss : K) → Recurrence F.ops t c.checks poly degree old miss
      → Tells F.ops c received w t poly degree
  unfolding erased
  tells received w near t begins poly degree old miss r =
      let none : c.checks ≡ c.checks - length {A = ℕ} [] = omega arith in
      let told = tells_off [] plain received w (near_plain received w near) t begins (𝟏 ∷ []) (locates_none F (locator F.ops c)) t (λ k l. simp (applies, ring))
      poly degree old miss (subst (λ n. Recurrence F.ops t n poly degree old miss) none r) poly (λ i. sym (times_unit F poly i)) in
      record { errors = told.errors; few = omega (arith, told.few); count = told.count; simple = told.simple; corrected = told.corrected }

  pub corrections : Corrections F.ops c
  corrections = record { one = λ received v w hv hw. one_off [] plain received v w (near_plain received v hv) (near_plain received w hw); tells = tells; accepted = accepted F c fits }
