-- Polynomials whose coefficients are all equal.
use Rattle.std.proofs.Common.{◌≡◌, ℕ, zero, suc, replicate, ap, ◌∙◌}
use Rattle.field.specs.Field.{power}
use Rattle.field.specs.Polynomial.{value}
use Rattle.field.proofs.Horner.{horner, value_horner}
use Rattle.field.proofs.Ring.{Lawful, ring, eq_of_sum, no_divisor}

module _ {K : Type 0} (F : Lawful K) where
  open F.ops use {nought as 𝟎, unit as 𝟏, sum as ◌⊕◌, product as ◌⊗◌}

  infixl 60 ◌⊕◌
  infixl 70 ◌⊗◌
  -- The sum of a·x^i over n terms, times x + 1.
  step : (a x h p : K) → (x ⊕ 𝟏) ⊗ h ≡ a ⊗ (p ⊕ 𝟏) → (x ⊕ 𝟏) ⊗ (a ⊕ x ⊗ h) ≡ a ⊗ (x ⊗ p ⊕ 𝟏)
  step a x h p e = before ∙ ap (λ t. (x ⊕ 𝟏) ⊗ a ⊕ x ⊗ t) e ∙ after
    where
      before : (x ⊕ 𝟏) ⊗ (a ⊕ x ⊗ h) ≡ (x ⊕ 𝟏) ⊗ a ⊕ x ⊗ ((x ⊕ 𝟏) ⊗ h)
      before = simp ring

      after : (x ⊕ 𝟏) ⊗ a ⊕ x ⊗ (a ⊗ (p ⊕ 𝟏)) ≡ a ⊗ (x ⊗ p ⊕ 𝟏)
      after = simp ring

  geometric : (n : ℕ) (a x : K) → (x ⊕ 𝟏) ⊗ horner F.ops (replicate n a) x ≡ a ⊗ (power F.ops x n ⊕ 𝟏)
  unfolding power horner
  geometric zero a x = simp ring
  geometric (suc n) a x = step a x (horner F.ops (replicate n a) x) (power F.ops x n) (geometric n a x)

  -- A polynomial of n equal coefficients is zero at each x other than one with x^n = 1.
  pub equal_vanish : (n : ℕ) (a x : K) → power F.ops x n ≡ 𝟏 → (x ≡ 𝟏 → ⊥) → value F.ops (replicate n a) x ≡ 𝟎
  equal_vanish n a x turn other =
      let h = horner F.ops (replicate n a) x in
      value_horner F (replicate n a) x
      ∙ no_divisor F h (x ⊕ 𝟏)
      (F.laws.product_comm h (x ⊕ 𝟏) ∙ geometric n a x ∙ ap (λ t. a ⊗ (t ⊕ 𝟏)) turn ∙ simp ring)
      (λ e. other (eq_of_sum F x 𝟏 e))
