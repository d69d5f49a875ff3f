-- The remainder of a polynomial: there is one and one only, and it is linear.
use Rattle.std.proofs.Common.{◌≡◌, ℕ, zero, suc, ◌<◌, ◌≤◌, ◌⊎◌, List, [], ◌∷◌, length, take, replicate, sym, refl, ap, ◌∙◌, subst, inl, inr, arith, length-take-le}
use Rattle.std.proofs.lemmas.List.{length-replicate}
use Rattle.std.proofs.lemmas.Bool.{cases_lt, cases_eq}
use Rattle.field.proofs.Ring.{Lawful, ring, eq_of_sum, no_divisor, add_self, mul_add, mul_one}
use Rattle.polynomial.specs.Coefficients.{coeff, Same, Nought, plus, scale, times, Degree, Monic, Remainder}
use Rattle.polynomial.proofs.Clauses.{coeffs, clauses, coeff_plus, coeff_scale, length_plus, times_cons}
use Rattle.polynomial.proofs.Entries.{coeff_past, coeff_take, coeff_zeros, nought_cons, same_list}
use Rattle.polynomial.proofs.Algebra.{times_plus, times_scale, times_zero}

module _ {K : Type 0} (F : Lawful K) where
  open F.ops use {nought as 𝟎, unit as 𝟏, sum as ◌⊕◌, product as ◌⊗◌}

  infixl 60 ◌⊕◌
  infixl 70 ◌⊗◌
  infix 40 ◌~◌
  infixl 50 ◌⊞◌
  infixl 55 ◌⊠◌
  abbrev ◌~◌ : List K → List K → Type 0
  p ~ q = Same F.ops p q

  abbrev ◌⊞◌ : List K → List K → List K
  p ⊞ q = plus F.ops p q

  abbrev ◌⊠◌ : List K → List K → List K
  p ⊠ q = times F.ops p q

  times_at : (a : K) (d g : List K) (i : ℕ) → Nought F.ops (d ⊠ g) → a ⊗ coeff F.ops g i ≡ coeff F.ops ((a ∷ d) ⊠ g) i
  times_at a d g zero z = simp (coeffs, ring)
  times_at a d g (suc i) z = simp (coeffs, ring, z i)

  -- a multiple of g without a power from its degree on is zero
  pub low_multiple : (g : List K) (m : ℕ) → Degree F.ops g m → (d : List K) → ((i : ℕ) → m ≤ i → coeff F.ops (d ⊠ g) i ≡ 𝟎) → Nought F.ops d
  low_multiple g m deg [] low = λ i. simp coeffs
  low_multiple g m deg (a ∷ d) low =
      let rest : Nought F.ops d =
      low_multiple g m deg d (λ i h. simp (coeffs, ring, deg.above (suc i) (omega arith)) at (low (suc i) (omega arith))) in
      nought_cons F.ops a d (no_divisor F a _ (times_at a d g m (times_zero F d g rest) ∙ low m (omega arith)) deg.top) rest

  regroup : (a b c d : K) → (a ⊕ c) ⊕ (b ⊕ d) ≡ (a ⊕ b) ⊕ (c ⊕ d)
  regroup a b c d = simp ring

  -- an equation of sums, moved about
  swap : (a b c d : K) → a ⊕ b ≡ c ⊕ d → a ⊕ c ≡ b ⊕ d
  swap a b c d e = eq_of_sum F _ _ (regroup a b c d ∙ ap (λ t. t ⊕ (c ⊕ d)) e ∙ add_self F (c ⊕ d))

  module _ (g : List K) (m : ℕ) (p r r' : List K) (R : Remainder F.ops g m p r) (R' : Remainder F.ops g m p r') where
    apart : (i : ℕ) → coeff F.ops ((R.quotient ⊞ R'.quotient) ⊠ g) i ≡ coeff F.ops r i ⊕ coeff F.ops r' i
    apart i =
        times_plus F R.quotient R'.quotient g i ∙ simp coeffs
        (swap _ _ _ _ (simp coeffs at (sym (R.sum i) ∙ R'.sum i)))

    same_quotient : Nought F.ops (R.quotient ⊞ R'.quotient)
    same_quotient = low_multiple g m R.degree _ (λ i h. apart i ∙ simp (R.low i h, R'.low i h, ring))

    -- there is one remainder
    pub one_remainder : r ~ r'
    one_remainder i = eq_of_sum F _ _ (sym (apart i) ∙ times_zero F _ g same_quotient i)

    pub one_quotient : R.quotient ~ R'.quotient
    one_quotient i = eq_of_sum F _ _ (simp coeffs at (same_quotient i))

    -- in one length it is one list
    pub one_list : length r ≡ length r' → r ≡ r'
    one_list l = same_list F.ops r r' l one_remainder

  -- the next remainder from the last: a coefficient a more at the bottom, and m added at x^c
  module _ (g : List K) (c : ℕ) (p r : List K) (R : Remainder F.ops g c p r) (a m f : K) (factor : f ⊗ coeff F.ops g c ≡ m ⊕ coeff F.ops (a ∷ r) c) (p' r' : List K) where
    before : (i : ℕ) → coeff F.ops (a ∷ p) i ≡ coeff F.ops (𝟎 ∷ (R.quotient ⊠ g)) i ⊕ coeff F.ops (a ∷ r) i
    before zero = simp (clauses, ring)
    before (suc i) = simp clauses (simp coeff_plus at (R.sum i))

    past : (i : ℕ) → c < i → coeff F.ops (a ∷ r) i ≡ 𝟎
    past zero h = absurd (omega arith)
    past (suc i) h = simp (clauses, R.low i (omega arith))

    below : (t u v : K) → t ⊕ u ≡ (v ⊕ t) ⊕ (u ⊕ v)
    below t u v = simp ring

    at_top : (t u : K) → (t ⊕ u) ⊕ m ≡ ((m ⊕ u) ⊕ t) ⊕ 𝟎
    at_top t u = simp ring

    over : (t : K) → t ⊕ 𝟎 ≡ (f ⊗ 𝟎 ⊕ t) ⊕ 𝟎
    over t = simp ring

    pub remainder_next : ((i : ℕ) → (i ≡ c → ⊥) → coeff F.ops p' i ≡ coeff F.ops (a ∷ p) i) → coeff F.ops p' c ≡ coeff F.ops (a ∷ p) c ⊕ m
        → ((i : ℕ) → i < c → coeff F.ops r' i ≡ coeff F.ops (a ∷ r) i ⊕ f ⊗ coeff F.ops g i) → ((i : ℕ) → c ≤ i → coeff F.ops r' i ≡ 𝟎)
        → Remainder F.ops g c p' r'
    remainder_next other here law low = record { degree = R.degree; quotient = f ∷ R.quotient; sum = λ i. go i (cases_lt i c) (cases_eq i c); low = low }
      where
        go : (i : ℕ) → (i < c) ⊎ (c ≤ i) → (i ≡ c) ⊎ (i ≡ c → ⊥) → coeff F.ops p' i ≡ coeff F.ops ((f ∷ R.quotient) ⊠ g ⊞ r') i
        go i (inl h) e = other i (λ z. omega arith) ∙ before i ∙ simp (times_cons, coeff_plus, coeff_scale, law i h) (below _ _ _)
        go i (inr h) (inl e) =
            subst (λ j. coeff F.ops p' j ≡ coeff F.ops ((f ∷ R.quotient) ⊠ g ⊞ r') j) (sym e)
            (here ∙ ap (λ t. t ⊕ m) (before c) ∙ simp (times_cons, coeff_plus, coeff_scale, factor, low c (omega arith)) (at_top _ _))
        go i (inr h) (inr n) =
            other i n ∙ before i
            ∙ simp (times_cons, coeff_plus, coeff_scale, past i (omega arith), R.degree.above i (omega arith), low i h) (over _)

  pub monic_degree : (g : List K) (m : ℕ) → Monic F.ops g m → Degree F.ops g m
  monic_degree g m h = record { top = λ e. F.laws.differ (sym e ∙ h.top); above = h.above }

  -- by a monic polynomial the factor is the sum itself
  pub monic_factor : (g : List K) (c : ℕ) → Monic F.ops g c → (f s : K) → f ≡ s → f ⊗ coeff F.ops g c ≡ s
  monic_factor g c monic f s e = ap (λ t. f ⊗ t) monic.top ∙ mul_one F f ∙ e

  -- the remainder of nothing
  pub remainder_start : (g : List K) (c : ℕ) → Degree F.ops g c → Remainder F.ops g c [] (replicate c 𝟎)
  remainder_start g c deg = record { degree = deg; quotient = []; sum = λ i. simp (coeffs, coeff_zeros F.ops c i); low = λ i h. coeff_zeros F.ops c i }

  -- every polynomial has a remainder, in as many coefficients as the degree says
  module _ (g : List K) (c : ℕ) (deg : Degree F.ops g c) where
    cancels : (t u y : K) → t ⊗ y ≡ 𝟏 → (u ⊗ y) ⊗ t ≡ 𝟎 ⊕ u
    cancels t u y e = sum_with (simp ring) e
      where
        sum_with : (u ⊗ y) ⊗ t ≡ u ⊗ (t ⊗ y) → t ⊗ y ≡ 𝟏 → (u ⊗ y) ⊗ t ≡ 𝟎 ⊕ u
        sum_with move e = move ∙ ap (λ s. u ⊗ s) e ∙ simp ring

    pub exists : (p : List K) → (r : List K) × (length r ≡ c) × Remainder F.ops g c p r
    exists [] = (replicate c 𝟎, length-replicate c 𝟎, remainder_start g c deg)
    exists (a ∷ p) =
        let rest = exists p in
        let r = rest.0 in
        let l : length r ≡ c = rest.1 in
        let y = F.laws.has_reciprocal (coeff F.ops g c) deg.top in
        let u = coeff F.ops (a ∷ r) c in
        let f = u ⊗ y.0 in
        let whole = (a ∷ r) ⊞ scale F.ops f g in
        let room = length_plus F.ops (a ∷ r) (scale F.ops f g) in
        let e : length (take c whole) ≡ c = length-take-le c whole (omega arith) in (
          take c whole,
          e,
          remainder_next g c p r rest.2 a 𝟎 f (cancels _ _ _ y.2) (a ∷ p) (take c whole)
              (λ i n. refl) (simp ring) (λ i h. coeff_take F.ops whole c i h ∙ simp (coeff_plus, coeff_scale)) (λ i h. coeff_past F.ops _ i (omega arith)),
        )

  -- the same remainder for the same polynomial
  pub remainder_same : (g : List K) (c : ℕ) (p p' r r' : List K) → p ~ p' → r ~ r' → Remainder F.ops g c p r → Remainder F.ops g c p' r'
  remainder_same g c p p' r r' s t R = record {
    degree = R.degree;
    quotient = R.quotient;
    sum = λ i. sym (s i) ∙ R.sum i ∙ simp (coeff_plus, t i);
    low = λ i h. sym (t i) ∙ R.low i h;
  }

  -- the remainder of a sum is the sum of the remainders
  pub remainder_plus : (g : List K) (c : ℕ) (p p' r r' : List K) → Remainder F.ops g c p r → Remainder F.ops g c p' r' → Remainder F.ops g c (p ⊞ p') (r ⊞ r')
  remainder_plus g c p p' r r' R R' = record {
    degree = R.degree;
    quotient = R.quotient ⊞ R'.quotient;
    sum = λ i. simp (coeff_plus, R.sum i, R'.sum i, times_plus F R.quotient R'.quotient g i) (regroup _ _ _ _);
    low = λ i h. simp (coeff_plus, R.low i h, R'.low i h, ring);
  }

  -- the remainder of a multiple is the multiple of the remainder
  pub remainder_scale : (a : K) (g : List K) (c : ℕ) (p r : List K) → Remainder F.ops g c p r → Remainder F.ops g c (scale F.ops a p) (scale F.ops a r)
  remainder_scale a g c p r R = record {
    degree = R.degree;
    quotient = scale F.ops a R.quotient;
    sum = λ i. simp (coeff_plus, coeff_scale, R.sum i, times_scale F a R.quotient g i, mul_add);
    low = λ i h. simp (coeff_scale, R.low i h, ring);
  }
