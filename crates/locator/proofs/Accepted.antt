-- A repaired word differs from the received one at roots alone, so that it is near enough where they are few and its syndromes vanish.
use Rattle.std.proofs.Common.{◌≡◌, ℕ, ◌+◌, ◌<◌, ◌≤◌, ◌⊎◌, List, [], ◌∷◌, length, sym, ap, ◌∙◌, inl, inr, arith}
use Rattle.std.proofs.lemmas.Bool.Decides.{Decides-not}
use Rattle.field.specs.Polynomial.{value, Vanishes}
use Rattle.field.proofs.Ring.{Lawful, eq_of_sum, no_divisor}
use Rattle.polynomial.specs.Coefficients.{coeff, Same, times}
use Rattle.polynomial.specs.Sums.{Each}
use Rattle.polynomial.proofs.Algebra.{value_times, value_same}
use Rattle.polynomial.proofs.Sums.{all_both}
use Rattle.code.specs.Code.{Code, root}
use Rattle.generator.specs.Claims.{Fits}
use Rattle.locator.specs.Located.{Locates}
use Rattle.locator.specs.Correction.{locator, Near, Repaired, counted, root_places}
use Rattle.locator.specs.Erasures.{erased, Flags, distance_off, NearOff}
use Rattle.locator.proofs.Members.{In, member}
use Rattle.locator.proofs.Monics.{times_unit}
use Rattle.locator.proofs.Locating.{decided, locates_none, no_other}
use Rattle.locator.proofs.Counts.{counted_fewer, differs, distance_counted}
use Rattle.locator.proofs.Erased.{length_erased, erased_flagged, erased_other}
use Rattle.locator.proofs.Repairs.{other_locator, locators_apart}

module _ {K : Type 0} (F : Lawful K) (c : Code) (fits : Fits F.ops c) where
  open F.ops use {nought as 𝟎, unit as 𝟏, sum as ◌⊕◌, product as ◌⊗◌}

  infixl 60 ◌⊕◌
  infixl 70 ◌⊗◌
  module _ (flags : List ℕ) (good : Flags c flags) (flagged poly all : List K) (locates : Locates F.ops (locator F.ops c) flags flagged)
      (same : Same F.ops all (times F.ops poly flagged)) (received after : List K) (long : length received ≡ c.symbols)
      (s : ℕ → K) (r : Repaired F.ops c s all c.symbols received after) where
    -- an unflagged place that was changed is a root
    changed_root : (i : ℕ) → i < c.symbols → (coeff F.ops (erased F.ops flags received) i ≡ coeff F.ops (erased F.ops flags after) i → ⊥)
        → value F.ops poly (locator F.ops c i) ≡ 𝟎
    changed_root i l changed = go (member i flags)
      where
        x : K
        x = locator F.ops c i

        go : In i flags ⊎ Each (λ a. a ≡ i → ⊥) flags → value F.ops poly x ≡ 𝟎
        go (inl m) = absurd (changed (erased_flagged F.ops flags received i m ∙ sym (erased_flagged F.ops flags after i m)))
        go (inr clear) = factor (decided F (value F.ops all x) 𝟎)
          where
            factor : (value F.ops all x ≡ 𝟎) ⊎ (value F.ops all x ≡ 𝟎 → ⊥) → value F.ops poly x ≡ 𝟎
            factor (inr other) =
                absurd (changed (erased_other F.ops flags received i clear ∙ eq_of_sum F _ _ ((r.each i l).none other) ∙ sym (erased_other F.ops flags after i clear)))
            factor (inl z) =
                no_divisor F (value F.ops poly x) (value F.ops flagged x)
                (sym (value_times F poly flagged x) ∙ sym (value_same F all (times F.ops poly flagged) same x) ∙ z)
                (λ y. no_other F (locator F.ops c) flags (locators_apart F c fits flags good.inside good.apart) flagged locates x y
                (all_both (λ b. b < c.symbols) (λ b. b ≡ i → ⊥) _ (λ b m n. other_locator F c fits b i m l n) flags good.inside clear))

    pub changes : distance_off F.ops flags received after ≤ root_places F.ops c poly c.symbols
    changes =
        let e : length (erased F.ops flags received) ≡ length (erased F.ops flags after) =
        length_erased F.ops flags received ∙ sym r.long ∙ sym (length_erased F.ops flags after) in
        let is = distance_counted F.ops (erased F.ops flags received) (erased F.ops flags after) e
        ∙ ap (counted (differs F.ops (erased F.ops flags received) (erased F.ops flags after))) (length_erased F.ops flags received ∙ long) in
        let few = counted_fewer (differs F.ops (erased F.ops flags received) (erased F.ops flags after)) (λ i. F.ops.same (value F.ops poly (locator F.ops c i)) 𝟎) c.symbols
        (λ i l b. (F.laws.sameness _ 𝟎).1 (changed_root i l ((Decides-not _ (F.laws.sameness _ _)).0 b))) in
        omega arith

    pub accepted_off : root_places F.ops c poly c.symbols + root_places F.ops c poly c.symbols + length flags ≤ c.checks
        → Vanishes F.ops (root F.ops c) c.checks after → NearOff F.ops c flags received after
    accepted_off few clean = record {
      long = long;
      codeword = record { long = r.long ∙ long; zero_at_roots = clean };
      close = omega (arith, changes);
    }

  -- The same with no flags.
  pub accepted : (received after : List K) (t : ℕ → K) (poly : List K) → length received ≡ c.symbols → Repaired F.ops c t poly c.symbols received after
      → root_places F.ops c poly c.symbols + root_places F.ops c poly c.symbols ≤ c.checks
      → Vanishes F.ops (root F.ops c) c.checks after → Near F.ops c received after
  unfolding erased
  accepted received after t poly long r few clean =
      let near = accepted_off [] (record { inside = tt; apart = tt }) (𝟏 ∷ []) poly poly (locates_none F (locator F.ops c)) (λ i. sym (times_unit F poly i)) received after long t r (omega arith) clean in
      record { long = long; codeword = near.codeword; close = omega (arith, near.close) }
