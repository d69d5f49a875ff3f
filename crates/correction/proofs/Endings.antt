-- What the ends of a correction say.
use Rattle.std.proofs.Common.{◌≡◌, ℕ, ◌+◌, ◌<◌, ◌≤◌, Bool, true, false, ◌⊎◌, List, length, take, Some, None, Option, IsSome, sym, refl, ap, ◌∙◌, subst, ap₂, inl, inr, arith, length-take-le}
use Rattle.std.proofs.lemmas.Bool.{cases_lt}
use Rattle.std.specs.Bool.{then_some}
use Rattle.field.specs.Field.{power, alpha_power}
use Rattle.field.specs.Polynomial.{value, Vanishes}
use Rattle.field.proofs.Ring.{Lawful, no_divisor}
use Rattle.polynomial.specs.Coefficients.{coeff, Nought, Monic, Remainder}
use Rattle.polynomial.specs.Division.{Reduced, Divided}
use Rattle.polynomial.proofs.Algebra.{value_zero}
use Rattle.polynomial.proofs.Sums.{all_map}
use Rattle.polynomial.proofs.Entries.{coeff_past, coeff_take}
use Rattle.polynomial.proofs.Degrees.{one_degree}
use Rattle.polynomial.proofs.Remainders.{monic_degree, remainder_same}
use Rattle.polynomial.proofs.Powers.{power_add}
use Rattle.code.specs.Code.{Code, gamma_power, root}
use Rattle.generator.specs.Claims.{Fits, Leaves}
use Rattle.generator.specs.Generator.{generator}
use Rattle.generator.proofs.Products.{monic_product}
use Rattle.generator.proofs.Divisors.{value_remainder}
use Rattle.locator.specs.Recurrence.{Recurrence}
use Rattle.locator.specs.Correction.{locator, Syndromes, Repaired, root_places}
use Rattle.locator.proofs.Counts.{passing, length_passing, passing_all, passing_apart}
use Rattle.locator.proofs.Quotients.{few}
use Rattle.locator.proofs.Repairs.{locators_apart, scale_not_zero}
use Rattle.locator.proofs.Accepted.{accepted}
use Rattle.locator.proofs.Corrected.{tells}
use Rattle.locator.proofs.Refusals.{distance_self, near_itself, refused_degree, refused_double, refused_look}
use Rattle.correction.specs.Correcting.{Far, CorrectedIn, DoubleRoot, Removed, Tried}

module _ {K : Type 0} (F : Lawful K) (c : Code) where
  open F.ops use {nought as 𝟎}

  -- the values of a word at the roots, which are multiples of the first of them, are its syndromes
  pub values_syndromes : (word roots syndromes : List K) (first base : K) (n : ℕ) → c.checks ≤ n → first ≡ gamma_power F.ops c c.first → base ≡ alpha_power F.ops c.step
      → ((k : ℕ) → k < n → coeff F.ops roots k ≡ F.ops.product first (power F.ops base k))
      → ((k : ℕ) → k < c.checks → coeff F.ops syndromes k ≡ value F.ops word (coeff F.ops roots k)) → Syndromes F.ops c word (coeff F.ops syndromes)
  values_syndromes word roots syndromes first base n room first_is base_is roots_are told k h =
      told k h
      ∙ ap (value F.ops word)
      (roots_are k (omega arith) ∙ ap₂ (λ a b. F.ops.product a (power F.ops b k)) first_is base_is ∙ sym (power_add F (alpha_power F.ops c.step) c.first k))

  -- a word and its remainder have the same syndromes
  pub leaves_syndromes : (word remainder : List K) (t : ℕ → K) → Leaves F.ops c word remainder → Syndromes F.ops c remainder t → Syndromes F.ops c word t
  leaves_syndromes word remainder t leaves s k h = s k h ∙ sym (value_remainder F (root F.ops c) c.checks word remainder leaves k h)

  -- the recurrence of a whole sequence of syndromes
  pub whole : (sequence syndromes : List K) (n : ℕ) (poly : List K) (degree : ℕ) (old : List K) (miss : K) → sequence ≡ syndromes → n ≡ c.checks
      → Recurrence F.ops (coeff F.ops sequence) n poly degree old miss → Recurrence F.ops (coeff F.ops syndromes) c.checks poly degree old miss
  whole sequence syndromes n poly degree old miss same all r =
      subst (λ m. Recurrence F.ops (coeff F.ops syndromes) m poly degree old miss) all (subst (λ s. Recurrence F.ops (coeff F.ops s) n poly degree old miss) same r)

  -- running syndromes that are all zero, or not, are those of a word that vanishes at the roots, or not
  pub looked : (word left : List K) → Syndromes F.ops c word (coeff F.ops left) → Nought F.ops left → Vanishes F.ops (root F.ops c) c.checks word
  looked word left s none k h = sym (s k h) ∙ none k

  pub not_looked : (word left : List K) → length left ≡ c.checks → Syndromes F.ops c word (coeff F.ops left) → (Nought F.ops left → ⊥) → Vanishes F.ops (root F.ops c) c.checks word → ⊥
  not_looked word left long s some clean = some (λ k. go k (cases_lt k c.checks))
    where
      go : (k : ℕ) → (k < c.checks) ⊎ (c.checks ≤ k) → coeff F.ops left k ≡ 𝟎
      go k (inl h) = s k h ∙ clean k h
      go k (inr h) = coeff_past F.ops left k (omega arith)

  -- the end of the search: the running syndromes are looked at
  looked_at : (poly : List K) (degree : ℕ) (t : ℕ → K) (before after left : List K) → length left ≡ c.checks → Repaired F.ops c t poly c.symbols before after
      → (Syndromes F.ops c before t → Syndromes F.ops c after (coeff F.ops left)) → (clean : Bool) → (clean ≡ true → Nought F.ops left) → (clean ≡ false → Nought F.ops left → ⊥)
      → Removed F.ops c poly degree t before after (then_some clean degree)
  looked_at poly degree t before after left long repaired running true zero other = (refl, repaired, λ begins. looked after left (running begins) (zero refl))
  looked_at poly degree t before after left long repaired running false zero other = inr (repaired, λ begins. not_looked after left long (running begins) (other refl))

  pub removed : (poly' poly syndromes' syndromes first_left left before after : List K) (degree' degree n : ℕ) (clean : Bool) (r : Option ℕ) → poly' ≡ poly → syndromes' ≡ syndromes → first_left ≡ syndromes
      → degree' ≡ degree → n ≡ c.symbols → length left ≡ c.checks → Repaired F.ops c (coeff F.ops syndromes') poly' n before after
      → (Syndromes F.ops c before (coeff F.ops first_left) → Syndromes F.ops c after (coeff F.ops left)) → r ≡ then_some clean degree' → (clean ≡ true → Nought F.ops left) → (clean ≡ false → Nought F.ops left → ⊥)
      → Removed F.ops c poly degree (coeff F.ops syndromes) before after r
  removed poly' poly syndromes' syndromes first_left left before after degree' degree n clean r is_poly is_syndromes is_first is_degree is_n long repaired running answer zero other =
      subst (Removed F.ops c poly degree (coeff F.ops syndromes) before after) (sym (answer ∙ ap (then_some clean) is_degree))
      (looked_at poly degree (coeff F.ops syndromes) before after left long
      (subst (λ m. Repaired F.ops c (coeff F.ops syndromes) poly m before after) is_n
      (subst (λ p. Repaired F.ops c (coeff F.ops syndromes) p n before after) is_poly
      (subst (λ s. Repaired F.ops c (coeff F.ops s) poly' n before after) is_syndromes repaired)))
      (subst (λ s. Syndromes F.ops c before (coeff F.ops s) → Syndromes F.ops c after (coeff F.ops left)) is_first running) clean zero other)

  -- a word that leaves zero is the codeword itself
  pub clean_word : (word remainder : List K) → length word ≡ c.symbols → Leaves F.ops c word remainder → Nought F.ops remainder → CorrectedIn F.ops c word word 0
  clean_word word remainder long leaves none = record {
    near = near_itself F c word long (λ k h. value_remainder F (root F.ops c) c.checks word remainder leaves k h ∙ value_zero F remainder none (root F.ops c k));
    count = sym (distance_self F word);
  }

  module _ (fits : Fits F.ops c) where
    -- a polynomial has at most as many roots among the locators as its degree says
    few_places : (poly : List K) (degree : ℕ) → Monic F.ops poly degree → root_places F.ops c poly c.symbols ≤ degree
    few_places poly degree monic =
        let is_root : ℕ → Bool = λ i. F.ops.same (value F.ops poly (locator F.ops c i)) 𝟎 in
        let found = passing is_root c.symbols in
        let all = passing_all is_root c.symbols in
        let inside = all_map (λ i. (i < c.symbols) × (is_root i ≡ true)) (λ i. i < c.symbols) (λ i h. h.0) found all in
        let roots = all_map (λ i. (i < c.symbols) × (is_root i ≡ true)) (λ i. value F.ops poly (locator F.ops c i) ≡ 𝟎) (λ i h. (F.laws.sameness _ 𝟎).0 h.1) found all in
        let most : length found ≤ degree = few F (locator F.ops c) found (locators_apart F c fits found inside (passing_apart is_root c.symbols)) poly degree monic roots in
        let count = length_passing is_root c.symbols in
        omega (arith, most, count)

    module _ (word : List K) (t : ℕ → K) (begins : Syndromes F.ops c word t) (poly : List K) (degree : ℕ) (old : List K) (miss : K)
        (r : Recurrence F.ops t c.checks poly degree old miss) where
      pub far_degree : c.checks < degree + degree → Far F.ops c word
      far_degree = refused_degree F c fits word t begins poly degree old miss r

      far_double : DoubleRoot F.ops c poly → Far F.ops c word
      far_double d =
          refused_double F c fits word t begins poly degree old miss r (locator F.ops c d.i) d.once
          (no_divisor F _ (power F.ops (locator F.ops c d.i) c.first) d.again (scale_not_zero F c fits d.i))

      pub tried : length word ≡ c.symbols → degree + degree ≤ c.checks → (after : List K) (answer : Option ℕ) → Removed F.ops c poly degree t word after answer → Tried F.ops c word after answer
      tried long limit after (Some n) (is, repaired, clean) =
          let most = few_places poly degree r.monic in
          let near = accepted F c fits word after t poly long repaired (omega arith) (clean begins) in
          record { near = near; count = is ∙ (tells F c fits word after near t begins poly degree old miss r).errors }
      tried long limit after None (inl d) = far_double d
      tried long limit after None (inr (repaired, bad)) = refused_look F c fits word t begins poly degree old miss r after repaired (bad begins)

  -- the remainder by the generator that division in place leaves, without the zeros above it
  pub low_remainder : (word after low : List K) → length low ≡ c.checks → ((k : ℕ) → k < c.checks → coeff F.ops low k ≡ coeff F.ops after k)
      → Reduced F.ops word (generator F.ops c) after → Leaves F.ops c word low
  low_remainder word after low long same reduced =
      let degree = monic_degree F (generator F.ops c) c.checks (monic_product F (root F.ops c) c.checks) in
      let e : reduced.degree ≡ c.checks = one_degree F.ops (generator F.ops c) reduced.degree c.checks reduced.remainder.degree degree in
      let left : Leaves F.ops c word after = subst (λ m. Remainder F.ops (generator F.ops c) m word after) e reduced.remainder in
      remainder_same F (generator F.ops c) c.checks word word after low (λ i. refl) (λ i. go left i (cases_lt i c.checks)) left
    where
      go : Leaves F.ops c word after → (i : ℕ) → (i < c.checks) ⊎ (c.checks ≤ i) → coeff F.ops after i ≡ coeff F.ops low i
      go left i (inl h) = sym (same i h)
      go left i (inr h) = left.low i h ∙ sym (coeff_past F.ops low i (omega arith))

  -- the generator is not zero
  pub not_nought : Nought F.ops (generator F.ops c) → ⊥
  not_nought none = (monic_degree F (generator F.ops c) c.checks (monic_product F (root F.ops c) c.checks)).top (none c.checks)

  -- so division by it leaves the remainder, and the remainder stands in the first symbols
  pub divides : {U : Type 0} (word by after : List K) (answer : Option U) → by ≡ generator F.ops c → Divided F.ops word by after answer → IsSome answer
  divides word by after None e (none, same) = absurd (not_nought (subst (Nought F.ops) e none))
  divides word by after (Some u) e reduced = refl

  pub leaves_first : {U : Type 0} (word by after low : List K) (answer : Option U) (u : U) → by ≡ generator F.ops c → answer ≡ Some u → Divided F.ops word by after answer
      → low ≡ take c.checks after → c.checks ≤ length after → Leaves F.ops c word low
  leaves_first word by after low answer u e is divided first room =
      low_remainder word after low (ap length first ∙ length-take-le c.checks after room) (λ k h. ap (λ l. coeff F.ops l k) first ∙ coeff_take F.ops after c.checks k h)
      (subst (λ p. Reduced F.ops word p after) e (subst (Divided F.ops word by after) is divided))
