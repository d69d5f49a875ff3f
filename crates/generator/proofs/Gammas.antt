-- The powers of γ differ where its exponent has an inverse, and what follows of a code: its roots differ, and its codewords lie far apart.
use Rattle.std.proofs.Common.{◌≡◌, ℕ, zero, suc, ◌+◌, ◌*◌, ◌%◌, ◌<◌, List, [], ◌∷◌, ◌++◌, length, replicate, sym, ap, ◌∙◌, subst, arith}
use Rattle.std.proofs.lemmas.List.{length-replicate}
use Rattle.field.specs.Field.{power, alpha_power}
use Rattle.field.specs.Polynomial.{Apart}
use Rattle.field.proofs.Ring.{Lawful, ring, eq_of_sum, no_divisor, add_self, mul_one, zero_mul}
use Rattle.polynomial.specs.Coefficients.{Nought}
use Rattle.polynomial.proofs.Clauses.{power_suc, power_zero}
use Rattle.polynomial.proofs.Entries.{coeff_zeros, same_list}
use Rattle.polynomial.proofs.Powers.{power_add, power_swap, power_product, power_not_zero, alpha_mod}
use Rattle.polynomial.proofs.Remainders.{remainder_plus}
use Rattle.polynomial.proofs.Words.{light, near}
use Rattle.code.specs.Code.{Code, gamma_power, root, Codeword}
use Rattle.code.proofs.Words.{gamma_turn}
use Rattle.generator.specs.Claims.{Fits, Generates, Spreads}
use Rattle.generator.proofs.Products.{monic_product}
use Rattle.generator.proofs.Divisors.{length_push, divided_vanishes, vanishes_divided, turn, turned_value}

module _ {K : Type 0} (F : Lawful K) where
  open F.ops use {nought as 𝟎, unit as 𝟏, sum as ◌⊕◌, product as ◌⊗◌}

  infixl 60 ◌⊕◌
  infixl 70 ◌⊗◌
  -- A factor other than zero, taken off.
  cancelled : (p x y : K) → (p ≡ 𝟎 → ⊥) → p ⊗ x ≡ p ⊗ y → x ≡ y
  cancelled p x y some e =
      eq_of_sum F x y (no_divisor F (x ⊕ y) p (spread ∙ ap (λ t. t ⊕ p ⊗ y) e ∙ add_self F (p ⊗ y)) some)
    where
      spread : (x ⊕ y) ⊗ p ≡ p ⊗ x ⊕ p ⊗ y
      spread = simp ring

  -- α is not zero, since some power of it is one.
  pub alpha_not_zero : 0 < F.ops.order → F.ops.alpha ≡ 𝟎 → ⊥
  alpha_not_zero positive e = go F.ops.order positive F.laws.period
    where
      go : (n : ℕ) → 0 < n → alpha_power F.ops n ≡ 𝟏 → ⊥
      go zero h one = absurd (omega arith)
      go (suc n) h one =
          F.laws.differ (sym (zero_mul F (alpha_power F.ops n)) ∙ ap (λ t. t ⊗ alpha_power F.ops n) (sym e) ∙ sym (power_suc F.ops F.ops.alpha n) ∙ one)

  -- A code whose numbers fit.
  module _ (c : Code) (fits : Fits F.ops c) where
    positive : 0 < F.ops.order
    positive = omega (arith, fits.full, fits.some, fits.few)

    pub gamma_not_zero : alpha_power F.ops c.step ≡ 𝟎 → ⊥
    gamma_not_zero = power_not_zero F F.ops.alpha (alpha_not_zero positive) c.step

    -- γ to the power of the inverse is α.
    gamma_inverse : power F.ops (alpha_power F.ops c.step) fits.inverse ≡ F.ops.alpha
    gamma_inverse =
        power_product F F.ops.alpha c.step fits.inverse
        ∙ alpha_mod F (c.step * fits.inverse) positive
        ∙ ap (alpha_power F.ops) (ap (λ n. (c.step * fits.inverse) % n) fits.full ∙ fits.inverts)
        ∙ power_suc F.ops F.ops.alpha 0
        ∙ ap (λ t. F.ops.alpha ⊗ t) (power_zero F.ops F.ops.alpha)
        ∙ mul_one F F.ops.alpha

    pub gamma_back : (m : ℕ) → power F.ops (gamma_power F.ops c m) fits.inverse ≡ alpha_power F.ops m
    gamma_back m = power_swap F (alpha_power F.ops c.step) m fits.inverse ∙ ap (λ t. power F.ops t m) gamma_inverse

    pub gammas_apart : Apart (gamma_power F.ops c) c.symbols
    gammas_apart i j hi hj e =
        F.laws.powers_differ i j (omega (arith, fits.full)) (omega (arith, fits.full))
        (sym (gamma_back i) ∙ ap (λ t. power F.ops t fits.inverse) e ∙ gamma_back j)

    pub roots_apart : Apart (root F.ops c) c.checks
    roots_apart i j hi hj e =
        let γ = alpha_power F.ops c.step in
        gammas_apart i j (omega (arith, fits.few)) (omega (arith, fits.few))
        (cancelled (power F.ops γ c.first) (power F.ops γ i) (power F.ops γ j) (power_not_zero F γ gamma_not_zero c.first)
        (sym (power_add F γ c.first i) ∙ e ∙ power_add F γ c.first j))

    pub root_turns : (k : ℕ) → power F.ops (root F.ops c k) c.symbols ≡ 𝟏
    root_turns k = subst (λ n. power F.ops (root F.ops c k) n ≡ 𝟏) fits.full (gamma_turn F c (c.first + k))

    cyclic : (front : List K) (top : K) → Codeword F.ops c (front ++ top ∷ []) → Codeword F.ops c (top ∷ front)
    cyclic front top w = record {
      long = sym (length_push front top) ∙ w.long;
      zero_at_roots = λ k h.
          turned_value F front top (root F.ops c k) (ap (power F.ops (root F.ops c k)) w.long ∙ root_turns k)
          ∙ simp (w.zero_at_roots k h, ring);
    }

    pub generates : Generates F.ops c
    generates = record {
      monic = monic_product F (root F.ops c) c.checks;
      divides = λ w v. vanishes_divided F (root F.ops c) c.checks roots_apart w v.zero_at_roots;
      divided = λ w long R. record { long = long; zero_at_roots = divided_vanishes F (root F.ops c) c.checks w R };
      sums = remainder_plus F _ c.checks;
      turn = turn F (root F.ops c) c.checks fits.some roots_apart c.symbols (λ k h. root_turns k);
      cyclic = cyclic;
    }

    shorter : (w : List K) → length w ≡ c.symbols → Apart (gamma_power F.ops c) (length w)
    shorter w long = subst (Apart (gamma_power F.ops c)) (sym long) gammas_apart

    pub spreads : Spreads F.ops c
    spreads = record {
      light = λ w v few.
          let zeros = replicate c.symbols 𝟎 in
          let none : Nought F.ops w = light F (alpha_power F.ops c.step) c.first c.checks w gamma_not_zero (shorter w v.long) v.zero_at_roots few in
          same_list F.ops w zeros (v.long ∙ sym (length-replicate c.symbols 𝟎)) (λ i. none i ∙ sym (coeff_zeros F.ops c.symbols i));
      near = λ u w cu cw close.
          near F (alpha_power F.ops c.step) c.first c.checks u w gamma_not_zero (cu.long ∙ sym cw.long) (shorter u cu.long) cu.zero_at_roots cw.zero_at_roots close;
    }
