-- A word with one symbol changed: its value and its syndromes, and the syndromes as power sums over the places where two words differ.
use Rattle.std.proofs.Common.{◌≡◌, ℕ, zero, suc, ◌+◌, ◌<◌, ◌⊎◌, List, [], ◌∷◌, length, set, sym, refl, ap, ◌∙◌, ap₂, inl, inr, arith, length-set}
use Rattle.std.proofs.lemmas.Bool.{cases_eq}
use Rattle.field.specs.Field.{power, alpha_power}
use Rattle.field.specs.Polynomial.{value}
use Rattle.field.proofs.Ring.{Lawful, ring, mul_assoc}
use Rattle.polynomial.specs.Coefficients.{coeff}
use Rattle.polynomial.specs.Sums.{Each, Distinct, psum}
use Rattle.polynomial.proofs.Clauses.{value_cons, power_zero, power_suc, coeff_zero, coeff_suc}
use Rattle.polynomial.proofs.Entries.{coeff_set_here, coeff_set_other}
use Rattle.polynomial.proofs.Algebra.{value_same}
use Rattle.polynomial.proofs.Powers.{power_add, power_swap}
use Rattle.polynomial.proofs.Sums.{sums, psum_cons, all_map}
use Rattle.code.specs.Code.{Code, root}
use Rattle.locator.specs.Correction.{locator, syndrome}
use Rattle.locator.proofs.Sequences.{psum_same}

module _ {K : Type 0} (F : Lawful K) where
  open F.ops use {nought as 𝟎, unit as 𝟏, sum as ◌⊕◌, product as ◌⊗◌}

  infixl 60 ◌⊕◌
  infixl 70 ◌⊗◌
  first_changed : (a e x v : K) → (a ⊕ e) ⊕ x ⊗ v ≡ (a ⊕ x ⊗ v) ⊕ e ⊗ 𝟏
  first_changed a e x v = simp ring

  later_changed : (b e x v p : K) → b ⊕ x ⊗ (v ⊕ e ⊗ p) ≡ (b ⊕ x ⊗ v) ⊕ e ⊗ (x ⊗ p)
  later_changed b e x v p = simp ring

  -- e added to symbol i adds e·x^i to the value at x
  pub value_set : (w : List K) (i : ℕ) (a e x : K) → i < length w → a ≡ coeff F.ops w i
      → value F.ops (set w i (a ⊕ e)) x ≡ value F.ops w x ⊕ e ⊗ power F.ops x i
  value_set [] i a e x l is = absurd (omega arith)
  value_set (b ∷ w) zero a e x l is =
      value_cons F (a ⊕ e) w x
      ∙ first_changed a e x (value F.ops w x)
      ∙ ap₂ (λ s t. s ⊕ e ⊗ t) (ap (λ s. s ⊕ x ⊗ value F.ops w x) (is ∙ coeff_zero F.ops b w) ∙ sym (value_cons F b w x)) (sym (power_zero F.ops x))
  value_set (b ∷ w) (suc i) a e x l is =
      value_cons F b (set w i (a ⊕ e)) x
      ∙ ap (λ t. b ⊕ x ⊗ t) (value_set w i a e x (omega arith) (is ∙ coeff_suc F.ops b w i))
      ∙ later_changed b e x (value F.ops w x) (power F.ops x i)
      ∙ ap₂ (λ s t. s ⊕ e ⊗ t) (sym (value_cons F b w x)) (sym (power_suc F.ops x i))

  module _ (c : Code) where
    -- a power of a root is a power of a locator
    pub root_locator : (k i : ℕ) → power F.ops (root F.ops c k) i ≡ power F.ops (locator F.ops c i) (c.first + k)
    root_locator k i = power_swap F (alpha_power F.ops c.step) (c.first + k) i

    pub root_parts : (k i : ℕ) → power F.ops (root F.ops c k) i ≡ power F.ops (locator F.ops c i) c.first ⊗ power F.ops (locator F.ops c i) k
    root_parts k i = root_locator k i ∙ power_add F (locator F.ops c i) c.first k

    -- e added to symbol i adds e times a power of its locator to the syndrome
    pub syndrome_set : (w : List K) (i k : ℕ) (a e : K) → i < length w → a ≡ coeff F.ops w i
        → syndrome F.ops c (set w i (a ⊕ e)) k ≡ syndrome F.ops c w k ⊕ e ⊗ power F.ops (root F.ops c k) i
    syndrome_set w i k a e l is = value_set w i a e (root F.ops c k) l is

    -- by how much two words differ in place i, times its locator to the exponent of the first root
    abbrev pub amount : List K → List K → ℕ → K
    amount v w i = (coeff F.ops v i ⊕ coeff F.ops w i) ⊗ power F.ops (locator F.ops c i) c.first

    gathered : (d r w : K) → d ⊕ (r ⊕ (w ⊕ d)) ≡ r ⊕ w
    gathered d r w = simp ring

    replaced : (r w : K) → w ⊕ (r ⊕ w) ≡ r
    replaced r w = simp ring

    -- the syndromes of two words differ by a power sum over places outside which the words agree
    pub by_support : (v : List K) (k : ℕ) (ls : List ℕ) → Distinct (λ i. i) ls → (w : List K) → Each (λ i. i < length w) ls
        → ((i : ℕ) → Each (λ a. a ≡ i → ⊥) ls → coeff F.ops v i ≡ coeff F.ops w i)
        → psum F.ops (amount v w) (locator F.ops c) ls k ≡ syndrome F.ops c v k ⊕ syndrome F.ops c w k
    by_support v k [] d w inside agree = simp (sums, value_same F v w (λ i. agree i tt), ring)
    by_support v k (j ∷ ls) d w inside agree =
        psum_cons F.ops (amount v w) (locator F.ops c) j ls k
        ∙ ap₂ ◌⊕◌
        (mul_assoc F _ _ _ ∙ ap (λ t. e ⊗ t) (sym (root_parts k j)))
        (psum_same F (amount v w) (amount v w') (locator F.ops c) ls k
        (all_map (λ a. a ≡ j → ⊥) _ (λ a n. ap (λ s. (coeff F.ops v a ⊕ s) ⊗ power F.ops (locator F.ops c a) c.first) (sym (coeff_set_other F.ops w j a _ n))) ls d.0)
        ∙ by_support v k ls d.1 w'
        (all_map (λ i. i < length w) (λ i. i < length w') (λ i l. omega (arith, length-set w j (coeff F.ops w j ⊕ e))) ls inside.1)
        (λ i off. agreed i off (cases_eq i j))
        ∙ ap (λ s. syndrome F.ops c v k ⊕ s) (syndrome_set w j k (coeff F.ops w j) e inside.0 refl))
        ∙ gathered (e ⊗ power F.ops (root F.ops c k) j) (syndrome F.ops c v k) (syndrome F.ops c w k)
      where
        e : K
        e = coeff F.ops v j ⊕ coeff F.ops w j

        w' : List K
        w' = set w j (coeff F.ops w j ⊕ e)

        agreed : (i : ℕ) → Each (λ a. a ≡ i → ⊥) ls → (i ≡ j) ⊎ (i ≡ j → ⊥) → coeff F.ops v i ≡ coeff F.ops w' i
        agreed i off (inl same) =
            ap (coeff F.ops v) same
            ∙ sym (replaced (coeff F.ops v j) (coeff F.ops w j))
            ∙ sym (coeff_set_here F.ops w j (coeff F.ops w j ⊕ e) inside.0)
            ∙ sym (ap (coeff F.ops w') same)
        agreed i off (inr other) = agree i (λ z. other (sym z), off) ∙ sym (coeff_set_other F.ops w j i _ other)
