-- Words that vanish at the factors' roots, and remainders by the product of the factors.
use Rattle.std.proofs.Common.{◌≡◌, ℕ, suc, ◌<◌, ◌≤◌, List, [], ◌∷◌, ◌++◌, length, sym, refl, ap, ◌∙◌, arith}
use Rattle.field.specs.Field.{power}
use Rattle.field.specs.Polynomial.{value, Vanishes, Apart}
use Rattle.field.proofs.Ring.{Lawful, ring, add_zero}
use Rattle.polynomial.specs.Coefficients.{coeff, plus, shift, Remainder}
use Rattle.polynomial.proofs.Clauses.{coeffs, clauses, values, coeff_plus, coeff_nil, power_suc}
use Rattle.polynomial.proofs.Entries.{coeff_past}
use Rattle.polynomial.proofs.Algebra.{value_plus, value_times, value_same, value_shift, append_shift}
use Rattle.polynomial.proofs.Remainders.{exists, monic_degree, remainder_same}
use Rattle.polynomial.proofs.Factors.{few_roots}
use Rattle.generator.specs.Generator.{product_of}
use Rattle.generator.proofs.Products.{monic_product, product_vanishes}

pub length_push : {A : Type 0} (front : List A) (top : A) → length (front ++ top ∷ []) ≡ suc (length front)
length_push [] top = refl
length_push (a ∷ front) top = ap suc (length_push front top)

module _ {K : Type 0} (F : Lawful K) where
  open F.ops use {nought as 𝟎, unit as 𝟏, sum as ◌⊕◌, product as ◌⊗◌}

  infixl 60 ◌⊕◌
  infixl 70 ◌⊗◌
  module _ (f : ℕ → K) (c : ℕ) where
    -- At each root a word and its remainder have the same value.
    pub value_remainder : (p r : List K) → Remainder F.ops (product_of F.ops f c) c p r → (k : ℕ) → k < c → value F.ops p (f k) ≡ value F.ops r (f k)
    value_remainder p r R k h = value_same F p _ R.sum (f k) ∙ simp (value_plus, value_times, product_vanishes F f c k h, ring)

    pub divided_vanishes : (w : List K) → Remainder F.ops (product_of F.ops f c) c w [] → Vanishes F.ops f c w
    divided_vanishes w R k h = value_remainder w [] R k h ∙ simp values

    pub vanishes_divided : Apart f c → (w : List K) → Vanishes F.ops f c w → Remainder F.ops (product_of F.ops f c) c w []
    vanishes_divided apart w v =
        let rest = exists F (product_of F.ops f c) c (monic_degree F _ c (monic_product F f c)) w in
        let l : length rest.0 ≡ c = rest.1 in
        let z = few_roots F c f apart rest.0 (omega arith) (λ k h. sym (value_remainder w rest.0 rest.2 k h) ∙ v k h) in
        remainder_same F _ c w w rest.0 [] (λ i. refl) (λ i. simp (clauses, z i)) rest.2

  add_back : (a b d : K) → a ⊕ b ≡ d → a ≡ d ⊕ b
  add_back a b d e = sym (ap (λ t. t ⊕ b) (sym e) ∙ cancel a b)
    where
      cancel : (a b : K) → (a ⊕ b) ⊕ b ≡ a
      cancel a b = simp ring

  -- Where p + r leaves nothing, p leaves r.
  pub other_side : (g : List K) (c : ℕ) (p r : List K) → ((i : ℕ) → c ≤ i → coeff F.ops r i ≡ 𝟎)
      → Remainder F.ops g c (plus F.ops p r) [] → Remainder F.ops g c p r
  other_side g c p r low R = record {
    degree = R.degree;
    quotient = R.quotient;
    sum = λ i. simp coeff_plus (add_back _ _ _ (simp (coeff_plus, coeff_nil, add_zero) at (R.sum i)));
    low = low;
  }

  -- What stands behind its remainder leaves nothing.
  pub coded : (g : List K) (c : ℕ) (p r : List K) → length r ≡ c → Remainder F.ops g c (shift F.ops c p) r → Remainder F.ops g c (r ++ p) []
  coded g c p r l R = record {
    degree = R.degree;
    quotient = R.quotient;
    sum = λ i. append_shift F r p i ∙ simp (coeffs, l, R.sum i, ring);
    low = λ i h. simp clauses;
  }

  -- x^n leaves one where each root to the power n is one.
  pub turn : (f : ℕ → K) (c : ℕ) → 0 < c → Apart f c → (n : ℕ) → ((k : ℕ) → k < c → power F.ops (f k) n ≡ 𝟏)
      → Remainder F.ops (product_of F.ops f c) c (shift F.ops n (𝟏 ∷ [])) (𝟏 ∷ [])
  turn f c some apart n turns =
      let w = plus F.ops (shift F.ops n (𝟏 ∷ [])) (𝟏 ∷ []) in
      let R = vanishes_divided f c apart w (λ k h. simp (value_plus, value_shift, turns k h, values, ring)) in
      other_side _ c _ (𝟏 ∷ []) (λ i h. coeff_past F.ops (𝟏 ∷ []) i (omega arith)) R

  -- Values of a word whose last symbol is moved to the front, at an x with as many different powers.
  value_append : (p q : List K) (x : K) → value F.ops (p ++ q) x ≡ power F.ops x (length p) ⊗ value F.ops q x ⊕ value F.ops p x
  value_append p q x = value_same F _ _ (append_shift F p q) x ∙ simp (value_plus, value_shift)

  moved_in : (x p t b : K) → x ⊗ (p ⊗ t ⊕ b) ≡ (x ⊗ p) ⊗ t ⊕ x ⊗ b
  moved_in x p t b = simp ring

  pub turned_value : (front : List K) (top x : K) → power F.ops x (length (front ++ top ∷ [])) ≡ 𝟏 → value F.ops (top ∷ front) x ≡ x ⊗ value F.ops (front ++ top ∷ []) x
  turned_value front top x turns =
      let longer : x ⊗ power F.ops x (length front) ≡ 𝟏 = sym (power_suc F.ops x (length front)) ∙ ap (power F.ops x) (sym (length_push front top)) ∙ turns in
      sym (ap (λ t. x ⊗ t) (value_append front (top ∷ []) x) ∙ moved_in x _ _ _ ∙ ap (λ t. t ⊗ value F.ops (top ∷ []) x ⊕ x ⊗ value F.ops front x) longer ∙ simp (values, ring))
