-- Monic polynomials: sums with lower ones, shifts and products of them.
use Rattle.std.proofs.Common.{◌≡◌, ℕ, zero, suc, ◌+◌, ◌-◌, ◌<◌, ◌≤◌, List, [], ◌∷◌, sym, refl, ap, ◌∙◌, zero-add as nat_zero_add, arith}
use Rattle.field.proofs.Ring.{Lawful, ring}
use Rattle.polynomial.specs.Coefficients.{coeff, Same, Nought, plus, shift, times, Monic}
use Rattle.polynomial.proofs.Clauses.{clauses, coeffs, coeff_plus}
use Rattle.polynomial.proofs.Algebra.{shift_above, times_zero}

module _ {K : Type 0} (F : Lawful K) where
  open F.ops use {nought as 𝟎, unit as 𝟏, sum as ◌⊕◌, product as ◌⊗◌}

  infixl 60 ◌⊕◌
  infixl 70 ◌⊗◌
  pub monic_same : (p q : List K) (m : ℕ) → Same F.ops p q → Monic F.ops p m → Monic F.ops q m
  monic_same p q m s h = record { top = sym (s m) ∙ h.top; above = λ i l. sym (s i) ∙ h.above i l }

  pub monic_unit : Monic F.ops (𝟏 ∷ []) 0
  monic_unit = record { top = simp clauses; above = above }
    where
      above : (i : ℕ) → 0 < i → coeff F.ops (𝟏 ∷ []) i ≡ 𝟎
      above zero l = absurd (omega arith)
      above (suc i) l = simp clauses

  pub monic_factor : (r : K) → Monic F.ops (r ∷ 𝟏 ∷ []) 1
  unfolding coeff
  monic_factor r = record { top = refl; above = above }
    where
      above : (i : ℕ) → 1 < i → coeff F.ops (r ∷ 𝟏 ∷ []) i ≡ 𝟎
      above zero l = absurd (omega arith)
      above (suc zero) l = absurd (omega arith)
      above (suc (suc i)) l = refl

  -- what has no power from x^m on does not change it
  pub monic_plus : (p q : List K) (m : ℕ) → Monic F.ops p m → ((i : ℕ) → m ≤ i → coeff F.ops q i ≡ 𝟎) → Monic F.ops (plus F.ops p q) m
  monic_plus p q m h low = record {
    top = coeff_plus F p q m ∙ simp (h.top, low m (omega arith), ring);
    above = λ i l. coeff_plus F p q i ∙ simp (h.above i l, low i (omega arith), ring);
  }

  pub monic_shift : (n : ℕ) (p : List K) (m l : ℕ) → l ≡ n + m → Monic F.ops p m → Monic F.ops (shift F.ops n p) l
  monic_shift n p m l e h = record {
    top = ap (coeff F.ops (shift F.ops n p)) e ∙ shift_above F n p m ∙ h.top;
    above = λ i more.
        let at : i ≡ n + (i - n) = omega arith in
        ap (coeff F.ops (shift F.ops n p)) at ∙ shift_above F n p (i - n) ∙ h.above (i - n) (omega arith);
  }

  monic_rest : (a : K) (p : List K) (m : ℕ) → Monic F.ops (a ∷ p) (suc m) → Monic F.ops p m
  monic_rest a p m h = record { top = simp clauses at h.top; above = λ i l. simp clauses at (h.above (suc i) (omega arith)) }

  pub monic_times : (p q : List K) (m n : ℕ) → Monic F.ops p m → Monic F.ops q n → Monic F.ops (times F.ops p q) (m + n)
  monic_times [] q m n hp hq = absurd (F.laws.differ (simp clauses at hp.top))
  monic_times (a ∷ p) q zero n hp hq = record {
    top = alike (zero + n) ∙ ap (coeff F.ops q) (nat_zero_add n) ∙ hq.top;
    above = λ i l. alike i ∙ hq.above i (omega arith);
  }
    where
      one : a ≡ 𝟏
      one = simp clauses at hp.top

      none : Nought F.ops p
      none i = simp clauses at (hp.above (suc i) (omega arith))

      alike : (i : ℕ) → coeff F.ops (times F.ops (a ∷ p) q) i ≡ coeff F.ops q i
      alike zero = simp (coeffs, one, ring)
      alike (suc i) = simp (coeffs, one, times_zero F p q none i, ring)
  monic_times (a ∷ p) q (suc m) n hp hq = go (monic_times p q m n (monic_rest a p m hp) hq)
    where
      go : Monic F.ops (times F.ops p q) (m + n) → Monic F.ops (times F.ops (a ∷ p) q) (suc m + n)
      go h = record {
        top = let e : suc m + n ≡ suc (m + n) = omega arith in ap (coeff F.ops (times F.ops (a ∷ p) q)) e ∙ simp (coeffs, hq.above (suc (m + n)) (omega arith), h.top, ring);
        above = above;
      }
        where
          above : (i : ℕ) → suc m + n < i → coeff F.ops (times F.ops (a ∷ p) q) i ≡ 𝟎
          above zero l = absurd (omega arith)
          above (suc i) l = simp (coeffs, hq.above (suc i) (omega arith), h.above i (omega arith), ring)

  -- p times one is p
  pub times_unit : (p : List K) (i : ℕ) → coeff F.ops (times F.ops p (𝟏 ∷ [])) i ≡ coeff F.ops p i
  times_unit [] i = simp coeffs
  times_unit (a ∷ p) zero = simp (coeffs, ring)
  times_unit (a ∷ p) (suc i) = simp (coeffs, ring, times_unit p i)
