-- What a loop over coefficients or places needs at each turn: sums from the front and from the top, quotients, and counts.
use Rattle.std.proofs.Common.{◌≡◌, ℕ, zero, suc, ◌+◌, ◌≤◌, Bool, true, false, cond, List, [], ◌∷◌, take, drop, sym, ap, ◌∙◌, ap₂, add-one, arith}
use Rattle.field.specs.Polynomial.{value}
use Rattle.field.proofs.Ring.{Lawful, ring, mul_assoc, mul_comm, mul_one}
use Rattle.polynomial.specs.Coefficients.{coeff, Nought}
use Rattle.polynomial.proofs.Clauses.{clauses, values, coeff_suc}
use Rattle.polynomial.proofs.Algebra.{value_zero}
use Rattle.locator.specs.Applied.{applied}
use Rattle.locator.specs.Correction.{counted}
use Rattle.locator.proofs.Sequences.{applies, applied_cons, applied_zero, applied_same}
use Rattle.locator.proofs.Buffers.{same_take}
use Rattle.locator.proofs.Quotients.{coeff_drop}

-- one number more is counted, or not
module _ (passes : ℕ → Bool) (n : ℕ) where
  pub counted_more : passes n ≡ true → counted passes (n + 1) ≡ counted passes n + 1
  unfolding counted
  counted_more e = ap (counted passes) (add-one n) ∙ ap (λ b. cond b (suc (counted passes n)) (counted passes n)) e ∙ sym (add-one (counted passes n))

  pub counted_on : passes n ≡ false → counted passes (n + 1) ≡ counted passes n
  unfolding counted
  counted_on e = ap (counted passes) (add-one n) ∙ ap (λ b. cond b (suc (counted passes n)) (counted passes n)) e

module _ {K : Type 0} (F : Lawful K) where
  open F.ops use {nought as 𝟎, unit as 𝟏, sum as ◌⊕◌, product as ◌⊗◌}

  infixl 60 ◌⊕◌
  infixl 70 ◌⊗◌
  -- a product with a reciprocal is a quotient
  pub divided : (d m r : K) → m ⊗ r ≡ 𝟏 → d ⊗ r ⊗ m ≡ d
  divided d m r e = mul_assoc F d r m ∙ ap (λ t. d ⊗ t) (mul_comm F r m ∙ e) ∙ mul_one F d

  -- from the front: one term more
  applied_front : (p : List K) (i : ℕ) (t : ℕ → K) (j n : ℕ) → n ≡ j + i → applied F.ops (take (suc i) p) t j ≡ applied F.ops (take i p) t j ⊕ coeff F.ops p i ⊗ t n
  applied_front [] zero t j n e = simp (clauses, applies, ring)
  applied_front [] (suc i) t j n e = simp (clauses, applies, ring)
  applied_front (a ∷ p) zero t j n e = let at : n ≡ j = omega arith in simp (clauses, applies, ring, at)
  applied_front (a ∷ p) (suc i) t j n e =
      applied_cons F.ops a (take (suc i) p) t j
      ∙ ap (λ s. a ⊗ t j ⊕ s) (applied_front p i t (suc j) n (omega arith))
      ∙ regrouped (a ⊗ t j) (applied F.ops (take i p) t (suc j)) (coeff F.ops p i ⊗ t n)
      ∙ ap₂ (λ s u. s ⊕ u ⊗ t n) (sym (applied_cons F.ops a (take i p) t j)) (sym (coeff_suc F.ops a p i))
    where
      regrouped : (x y z : K) → x ⊕ (y ⊕ z) ≡ x ⊕ y ⊕ z
      regrouped x y z = simp ring

  pub applied_take : (p : List K) (i : ℕ) (t : ℕ → K) (j n : ℕ) → n ≡ j + i → applied F.ops (take (i + 1) p) t j ≡ applied F.ops (take i p) t j ⊕ coeff F.ops p i ⊗ t n
  applied_take p i t j n e = ap (λ m. applied F.ops (take m p) t j) (add-one i) ∙ applied_front p i t j n e

  pub applied_take_none : (p : List K) (t : ℕ → K) (j : ℕ) → applied F.ops (take 0 p) t j ≡ 𝟎
  applied_take_none [] t j = simp applies
  applied_take_none (a ∷ p) t j = simp applies

  -- the terms from x^m on may be left out where they are zero
  pub applied_take_all : (p : List K) (m : ℕ) → ((i : ℕ) → m ≤ i → coeff F.ops p i ≡ 𝟎) → (t : ℕ → K) (j : ℕ) → applied F.ops (take m p) t j ≡ applied F.ops p t j
  applied_take_all p m above t j = applied_same F (take m p) p (same_take F p m above) t j

  -- from the top: one term more, and none
  top_value : (p : List K) (i : ℕ) (x : K) → value F.ops (drop i p) x ≡ coeff F.ops p i ⊕ x ⊗ value F.ops (drop (suc i) p) x
  top_value [] zero x = simp (clauses, values, ring)
  top_value [] (suc i) x = simp (clauses, values, ring)
  top_value (a ∷ p) zero x = simp (clauses, values)
  top_value (a ∷ p) (suc i) x = top_value p i x ∙ ap (λ s. s ⊕ x ⊗ value F.ops (drop (suc i) p) x) (sym (coeff_suc F.ops a p i))

  pub value_drop : (p : List K) (i : ℕ) (x : K) → value F.ops (drop i p) x ≡ coeff F.ops p i ⊕ x ⊗ value F.ops (drop (i + 1) p) x
  value_drop p i x = top_value p i x ∙ ap (λ m. coeff F.ops p i ⊕ x ⊗ value F.ops (drop m p) x) (sym (add-one i))

  top_applied : (p : List K) (i : ℕ) (t : ℕ → K) (n : ℕ) → applied F.ops (drop i p) t n ≡ coeff F.ops p i ⊗ t n ⊕ applied F.ops (drop (suc i) p) t (suc n)
  top_applied [] zero t n = simp (clauses, applies, ring)
  top_applied [] (suc i) t n = simp (clauses, applies, ring)
  top_applied (a ∷ p) zero t n = simp (clauses, applies)
  top_applied (a ∷ p) (suc i) t n = top_applied p i t n ∙ ap (λ s. s ⊗ t n ⊕ applied F.ops (drop (suc i) p) t (suc n)) (sym (coeff_suc F.ops a p i))

  pub applied_drop : (p : List K) (i : ℕ) (t : ℕ → K) (n : ℕ) → applied F.ops (drop i p) t n ≡ coeff F.ops p i ⊗ t n ⊕ applied F.ops (drop (i + 1) p) t (n + 1)
  applied_drop p i t n = top_applied p i t n ∙ sym (ap₂ (λ k m. coeff F.ops p i ⊗ t n ⊕ applied F.ops (drop k p) t m) (add-one i) (add-one n))

  module _ (p : List K) (m : ℕ) (above : (i : ℕ) → m ≤ i → coeff F.ops p i ≡ 𝟎) where
    none_left : Nought F.ops (drop m p)
    none_left i = coeff_drop F m p i ∙ above (m + i) (omega arith)

    pub value_drop_none : (x : K) → value F.ops (drop m p) x ≡ 𝟎
    value_drop_none x = value_zero F (drop m p) none_left x

    pub applied_drop_none : (t : ℕ → K) (n : ℕ) → applied F.ops (drop m p) t n ≡ 𝟎
    applied_drop_none t n = applied_zero F (drop m p) t n (λ i k e. ap (λ s. s ⊗ t k) (none_left i) ∙ simp ring)
