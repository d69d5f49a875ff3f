-- The product of x + f k over some k: its coefficients, its length and its roots.
use Rattle.std.proofs.Common.{◌≡◌, ℕ, zero, suc, ◌<◌, ◌⊎◌, List, [], ◌∷◌, length, refl, ap, ◌∙◌, inl, inr, arith}
use Rattle.std.proofs.lemmas.Bool.{cases_eq}
use Rattle.field.specs.Polynomial.{value, Vanishes}
use Rattle.field.proofs.Ring.{Lawful, ring}
use Rattle.polynomial.specs.Coefficients.{coeff, plus, scale, times, Monic}
use Rattle.polynomial.proofs.Clauses.{coeffs, clauses, values, length_plus, length_scale}
use Rattle.polynomial.proofs.Algebra.{value_times}
use Rattle.generator.specs.Generator.{product_of}

module _ {K : Type 0} (F : Lawful K) where
  open F.ops use {nought as 𝟎, unit as 𝟏, sum as ◌⊕◌, product as ◌⊗◌}

  infixl 60 ◌⊕◌
  infixl 70 ◌⊗◌
  coeff_nought : (i : ℕ) → coeff F.ops (𝟎 ∷ []) i ≡ 𝟎
  coeff_nought zero = simp clauses
  coeff_nought (suc i) = simp clauses

  -- The coefficients of (x + a)·q.
  pub coeff_factor : (a : K) (q : List K) (i : ℕ) → coeff F.ops (times F.ops (a ∷ 𝟏 ∷ []) q) i ≡ a ⊗ coeff F.ops q i ⊕ coeff F.ops (𝟎 ∷ q) i
  coeff_factor a q zero = simp (coeffs, ring)
  coeff_factor a q (suc i) = simp (coeffs, coeff_nought i, ring)

  monic_factor : (a : K) (q : List K) (m : ℕ) → Monic F.ops q m → Monic F.ops (times F.ops (a ∷ 𝟏 ∷ []) q) (suc m)
  monic_factor a q m h = record {
    top = coeff_factor a q (suc m) ∙ simp (clauses, h.top, h.above (suc m) (omega arith), ring);
    above = above;
  }
    where
      above : (i : ℕ) → suc m < i → coeff F.ops (times F.ops (a ∷ 𝟏 ∷ []) q) i ≡ 𝟎
      above zero l = absurd (omega arith)
      above (suc i) l = coeff_factor a q (suc i) ∙ simp (clauses, h.above i (omega arith), h.above (suc i) (omega arith), ring)

  length_factor : (a : K) (q : List K) → 0 < length q → length (times F.ops (a ∷ 𝟏 ∷ []) q) ≡ suc (length q)
  unfolding times
  length_factor a q h =
      let e = length_scale F.ops 𝟏 q in
      let e' = length_scale F.ops a q in
      let inner = length_plus F.ops (scale F.ops 𝟏 q) (𝟎 ∷ []) in
      let whole = length_plus F.ops (scale F.ops a q) (𝟎 ∷ plus F.ops (scale F.ops 𝟏 q) (𝟎 ∷ [])) in
      omega arith

  module _ (f : ℕ → K) where
    pub monic_product : (n : ℕ) → Monic F.ops (product_of F.ops f n) n
    unfolding product_of
    monic_product zero = record { top = simp clauses; above = above }
      where
        above : (i : ℕ) → 0 < i → coeff F.ops (𝟏 ∷ []) i ≡ 𝟎
        above zero l = absurd (omega arith)
        above (suc i) l = simp clauses
    monic_product (suc n) = monic_factor (f n) _ n (monic_product n)

    -- The coefficients with one factor more.
    pub product_more : (n i : ℕ) → coeff F.ops (product_of F.ops f (suc n)) i ≡ f n ⊗ coeff F.ops (product_of F.ops f n) i ⊕ coeff F.ops (𝟎 ∷ product_of F.ops f n) i
    unfolding product_of
    product_more n i = coeff_factor (f n) (product_of F.ops f n) i

    pub length_product : (n : ℕ) → length (product_of F.ops f n) ≡ suc n
    unfolding product_of
    length_product zero = refl
    length_product (suc n) = length_factor (f n) _ (let e = length_product n in omega arith) ∙ ap suc (length_product n)

    pub product_vanishes : (n : ℕ) → Vanishes F.ops f n (product_of F.ops f n)
    unfolding product_of
    product_vanishes zero k h = absurd (omega arith)
    product_vanishes (suc n) k h = go (cases_eq k n) (product_vanishes n k)
      where
        go : (k ≡ n) ⊎ (k ≡ n → ⊥) → (k < n → value F.ops (product_of F.ops f n) (f k) ≡ 𝟎)
            → value F.ops (times F.ops (f n ∷ 𝟏 ∷ []) (product_of F.ops f n)) (f k) ≡ 𝟎
        go (inl e) ih = value_times F _ _ _ ∙ simp (e, values, ring)
        go (inr ne) ih = value_times F _ _ _ ∙ simp (ih (omega arith), ring)
