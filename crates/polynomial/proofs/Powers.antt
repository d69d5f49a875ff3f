-- Powers of an element: of a sum of exponents, of a product, of a power; that none of them is zero; and when a power of α is one.
use Rattle.std.proofs.Common.{◌≡◌, ℕ, zero, suc, ◌+◌, ◌*◌, ◌/◌, ◌%◌, ◌<◌, sym, ap, ◌∙◌, mul_comm, suc-add, mul-zero, zero-add as nat_zero_add, mul-suc, arith}
use Rattle.std.proofs.lemmas.Nat.{div-add-mod', mod_below}
use Rattle.field.specs.Field.{power, alpha_power}
use Rattle.field.proofs.Ring.{Lawful, ring, no_divisor}
use Rattle.polynomial.proofs.Clauses.{power_zero, power_suc}

module _ {K : Type 0} (F : Lawful K) where
  open F.ops use {nought as 𝟎, unit as 𝟏, product as ◌⊗◌}

  infixl 70 ◌⊗◌
  pub power_add : (y : K) (m j : ℕ) → power F.ops y (m + j) ≡ power F.ops y m ⊗ power F.ops y j
  power_add y zero j = simp (nat_zero_add, power_zero, ring)
  power_add y (suc m) j = simp (suc-add, power_suc, ring, power_add y m j)

  pub power_mul : (y z : K) (n : ℕ) → power F.ops (y ⊗ z) n ≡ power F.ops y n ⊗ power F.ops z n
  power_mul y z zero = simp (power_zero, ring)
  power_mul y z (suc n) = simp (power_suc, ring, power_mul y z n)

  pub power_one : (n : ℕ) → power F.ops 𝟏 n ≡ 𝟏
  power_one zero = simp power_zero
  power_one (suc n) = simp (power_suc, ring, power_one n)

  pub power_swap : (y : K) (i j : ℕ) → power F.ops (power F.ops y i) j ≡ power F.ops (power F.ops y j) i
  power_swap y i zero = simp (power_zero, power_one)
  power_swap y i (suc j) = rw (power_suc F.ops (power F.ops y i) j, power_suc F.ops y j, power_mul y (power F.ops y j) i, power_swap y i j)

  pub power_not_zero : (y : K) → (y ≡ 𝟎 → ⊥) → (n : ℕ) → power F.ops y n ≡ 𝟎 → ⊥
  power_not_zero y m zero e = F.laws.differ (sym e ∙ power_zero F.ops y)
  power_not_zero y m (suc n) e = m (no_divisor F y (power F.ops y n) (sym (power_suc F.ops y n) ∙ e) (power_not_zero y m n))

  -- x^m to the power n is x^(m·n).
  pub power_product : (x : K) (m n : ℕ) → power F.ops (power F.ops x m) n ≡ power F.ops x (m * n)
  unfolding power
  power_product x m zero = sym (ap (power F.ops x) (mul-zero m))
  power_product x m (suc n) =
      ap (λ t. power F.ops x m ⊗ t) (power_product x m n)
      ∙ sym (power_add x m (m * n))
      ∙ ap (power F.ops x) (let e : m + m * n ≡ m * suc n = omega (arith, mul-suc m n) in e)

  -- The exponent of a power of α counts up to whole turns.
  pub alpha_mod : (n : ℕ) → 0 < F.ops.order → alpha_power F.ops n ≡ alpha_power F.ops (n % F.ops.order)
  alpha_mod n positive =
      let d = F.ops.order in
      let α = F.ops.alpha in
      ap (power F.ops α) (sym (div-add-mod' n d))
      ∙ power_add α (n / d * d) (n % d)
      ∙ ap (λ t. t ⊗ power F.ops α (n % d))
      (ap (power F.ops α) (mul_comm (n / d) d) ∙ sym (power_product α d (n / d)) ∙ ap (λ t. power F.ops t (n / d)) F.laws.period ∙ power_one (n / d))
      ∙ F.laws.product_unit (power F.ops α (n % d))

  -- α^n is one only after whole turns.
  pub alpha_turns : (n : ℕ) → 0 < F.ops.order → alpha_power F.ops n ≡ 𝟏 → n % F.ops.order ≡ 0
  unfolding power
  alpha_turns n positive e =
      F.laws.powers_differ (n % F.ops.order) 0 (mod_below n F.ops.order positive) positive (sym (alpha_mod n positive) ∙ e)

  -- Each power of α, taken as often as α has powers, is one.
  pub alpha_power_turn : (n : ℕ) → power F.ops (alpha_power F.ops n) F.ops.order ≡ 𝟏
  alpha_power_turn n =
      let α = F.ops.alpha in
      power_product α n F.ops.order
      ∙ ap (power F.ops α) (mul_comm n F.ops.order)
      ∙ sym (power_product α F.ops.order n)
      ∙ ap (λ t. power F.ops t n) F.laws.period
      ∙ power_one n
