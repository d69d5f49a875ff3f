-- The algebra of polynomials: products of sums, values of sums and products, and the coefficients of products.
use Rattle.std.proofs.Common.{◌≡◌, ℕ, zero, suc, ◌+◌, ◌<◌, List, [], ◌∷◌, ◌++◌, length, sym, ◌∙◌, suc-add, zero-add as nat_zero_add, arith}
use Rattle.field.specs.Field.{power}
use Rattle.field.specs.Polynomial.{value}
use Rattle.field.proofs.Ring.{Lawful, ring, eq_of_sum}
use Rattle.polynomial.specs.Coefficients.{coeff, Same, Nought, plus, scale, times, crossed, shift}
use Rattle.polynomial.proofs.Clauses.{coeffs, clauses, values, power_zero, power_suc}

module _ {K : Type 0} (F : Lawful K) where
  open F.ops use {nought as 𝟎, unit as 𝟏, sum as ◌⊕◌, product as ◌⊗◌}

  infixl 60 ◌⊕◌
  infixl 70 ◌⊗◌
  infix 40 ◌~◌
  infixl 50 ◌⊞◌
  infixl 55 ◌⊠◌
  abbrev ◌~◌ : List K → List K → Type 0
  p ~ q = Same F.ops p q

  abbrev ◌⊞◌ : List K → List K → List K
  p ⊞ q = plus F.ops p q

  abbrev ◌⊠◌ : List K → List K → List K
  p ⊠ q = times F.ops p q

  -- (p + q)·g = p·g + q·g
  pub times_plus : (p q g : List K) → (p ⊞ q) ⊠ g ~ (p ⊠ g) ⊞ (q ⊠ g)
  times_plus [] q g i = simp coeffs
  times_plus (a ∷ p) [] g i = simp (coeffs, ring)
  times_plus (a ∷ p) (b ∷ q) g zero = simp (coeffs, ring)
  times_plus (a ∷ p) (b ∷ q) g (suc i) = simp (coeffs, ring, times_plus p q g i)

  -- (c·p)·g = c·(p·g)
  pub times_scale : (c : K) (p g : List K) → scale F.ops c p ⊠ g ~ scale F.ops c (p ⊠ g)
  unfolding scale
  times_scale c [] g i = simp coeffs
  times_scale c (a ∷ p) g zero = simp (coeffs, ring)
  times_scale c (a ∷ p) g (suc i) = simp (coeffs, ring, times_scale c p g i)

  -- 0·g = 0
  pub times_zero : (d g : List K) → Nought F.ops d → Nought F.ops (d ⊠ g)
  times_zero [] g z i = simp coeffs
  times_zero (a ∷ d) g z zero = simp (coeffs, ring, simp coeffs at (z 0))
  times_zero (a ∷ d) g z (suc i) = simp (coeffs, ring, simp coeffs at (z 0), times_zero d g (λ j. simp coeffs at (z (suc j))) i)

  -- the value of a sum is the sum of the values, and so on
  pub value_plus : (p q : List K) (x : K) → value F.ops (p ⊞ q) x ≡ value F.ops p x ⊕ value F.ops q x
  value_plus [] q x = simp (clauses, values, ring)
  value_plus (a ∷ p) [] x = simp (clauses, values, ring)
  value_plus (a ∷ p) (b ∷ q) x = simp (clauses, values, ring, value_plus p q x)

  pub value_scale : (c : K) (p : List K) (x : K) → value F.ops (scale F.ops c p) x ≡ c ⊗ value F.ops p x
  unfolding scale
  value_scale c [] x = simp (values, ring)
  value_scale c (a ∷ p) x = simp (values, ring, value_scale c p x)

  pub value_times : (p q : List K) (x : K) → value F.ops (p ⊠ q) x ≡ value F.ops p x ⊗ value F.ops q x
  value_times [] q x = simp (clauses, values, ring)
  value_times (a ∷ p) q x = simp (clauses, value_plus, value_scale, values, ring, value_times p q x)

  pub value_zero : (p : List K) → Nought F.ops p → (x : K) → value F.ops p x ≡ 𝟎
  value_zero [] z x = simp values
  value_zero (a ∷ p) z x = simp (values, ring, simp coeffs at (z 0), value_zero p (λ i. simp coeffs at (z (suc i))) x)

  pub value_same : (p q : List K) → p ~ q → (x : K) → value F.ops p x ≡ value F.ops q x
  value_same p q s x =
      eq_of_sum F _ _ (sym (value_plus p q x) ∙ value_zero (p ⊞ q) (λ i. simp (coeffs, s i, ring)) x)

  pub value_shift : (n : ℕ) (p : List K) (x : K) → value F.ops (shift F.ops n p) x ≡ power F.ops x n ⊗ value F.ops p x
  value_shift zero p x = simp (clauses, power_zero, ring)
  value_shift (suc n) p x = simp (clauses, values, power_suc, ring, value_shift n p x)

  -- r followed by p is r + x^(length r)·p
  pub append_shift : (r p : List K) → r ++ p ~ shift F.ops (length r) p ⊞ r
  append_shift [] p i = simp (coeffs, ring)
  append_shift (a ∷ r) p zero = simp (coeffs, ring)
  append_shift (a ∷ r) p (suc i) = simp (coeffs, ring, append_shift r p i)

  crossed_nil : (q : List K) (i j : ℕ) → crossed F.ops [] q i j ≡ 𝟎
  crossed_nil q i zero = simp (clauses, ring)
  crossed_nil q i (suc j) = simp (clauses, ring, crossed_nil q (suc i) j)

  crossed_cons : (a : K) (p q : List K) (i j : ℕ) → crossed F.ops (a ∷ p) q (suc i) j ≡ crossed F.ops p q i j
  crossed_cons a p q i zero = simp clauses
  crossed_cons a p q i (suc j) = simp (clauses, crossed_cons a p q (suc i) j)

  -- the coefficient of a product
  pub times_crossed : (p q : List K) (n : ℕ) → coeff F.ops (p ⊠ q) n ≡ crossed F.ops p q 0 n
  times_crossed [] q n = simp (clauses, crossed_nil q 0 n)
  times_crossed (a ∷ p) q zero = simp (coeffs, ring)
  times_crossed (a ∷ p) q (suc n) = simp (coeffs, times_crossed p q n, crossed_cons a p q 0 n)

  -- the coefficients of x^n·p, from x^n on and below it
  pub shift_above : (n : ℕ) (p : List K) (i : ℕ) → coeff F.ops (shift F.ops n p) (n + i) ≡ coeff F.ops p i
  shift_above zero p i = simp (clauses, nat_zero_add)
  shift_above (suc n) p i = simp (clauses, suc-add, shift_above n p i)

  pub shift_below : (n : ℕ) (p : List K) (i : ℕ) → i < n → coeff F.ops (shift F.ops n p) i ≡ 𝟎
  shift_below zero p i h = absurd (omega arith)
  shift_below (suc n) p zero h = simp clauses
  shift_below (suc n) p (suc i) h = simp (clauses, shift_below n p i (omega arith))
