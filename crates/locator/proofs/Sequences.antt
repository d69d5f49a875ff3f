-- A polynomial applied to a sequence: what sums, multiples, shifts and products of polynomials give, and what power sums give.
use Rattle.std.proofs.Common.{◌≡◌, ℕ, zero, suc, ◌+◌, ◌<◌, ◌≤◌, ◌⊎◌, List, [], ◌∷◌, ◌++◌, sym, refl, ap, ◌∙◌, inl, inr, add-suc, suc-add, zero-add as nat_zero_add, arith}
use Rattle.std.proofs.lemmas.Bool.{cases_lt, cases_eq}
use Rattle.field.specs.Field.{Ops}
use Rattle.field.specs.Polynomial.{value}
use Rattle.field.proofs.Ring.{Lawful, ring, mul_zero}
use Rattle.polynomial.specs.Coefficients.{coeff, Same, plus, scale, shift, times, Monic}
use Rattle.polynomial.specs.Sums.{Each, psum}
use Rattle.polynomial.proofs.Clauses.{clauses, values, value_cons}
use Rattle.polynomial.proofs.Sums.{sums, psum_cons, psum_zero}
use Rattle.locator.specs.Applied.{applied}
use Rattle.locator.proofs.Members.{all_of}
use Rattle.locator.proofs.Monics.{monic_unit, monic_shift}

module _ {K : Type 0} (o : Ops K) where
  pub applied_nil : (t : ℕ → K) (j : ℕ) → applied o [] t j ≡ o.nought
  unfolding applied
  applied_nil t j = refl

  pub applied_cons : (a : K) (p : List K) (t : ℕ → K) (j : ℕ) → applied o (a ∷ p) t j ≡ o.sum (o.product a (t j)) (applied o p t (suc j))
  unfolding applied
  applied_cons a p t j = refl

pub ruleset applies = (applied_nil, applied_cons)

module _ {K : Type 0} (F : Lawful K) where
  open F.ops use {nought as 𝟎, unit as 𝟏, sum as ◌⊕◌, product as ◌⊗◌}

  infixl 60 ◌⊕◌
  infixl 70 ◌⊗◌
  -- where each term is zero, so is the sum
  pub applied_zero : (p : List K) (t : ℕ → K) (j : ℕ) → ((i n : ℕ) → n ≡ j + i → coeff F.ops p i ⊗ t n ≡ 𝟎) → applied F.ops p t j ≡ 𝟎
  applied_zero [] t j h = applied_nil F.ops t j
  applied_zero (a ∷ p) t j h =
      let here : a ⊗ t j ≡ 𝟎 = simp clauses at (h 0 j (omega arith)) in
      let rest = applied_zero p t (suc j) (λ i n e. simp clauses at (h (suc i) n (omega arith))) in
      simp (applies, here, rest, ring)

  -- where each term is the same, so is the sum
  pub applied_alike : (p q : List K) (t u : ℕ → K) (j : ℕ) → ((i n : ℕ) → n ≡ j + i → coeff F.ops p i ⊗ t n ≡ coeff F.ops q i ⊗ u n)
      → applied F.ops p t j ≡ applied F.ops q u j
  applied_alike [] q t u j h =
      applied_nil F.ops t j ∙ sym (applied_zero q u j (λ i n e. sym (h i n e) ∙ simp (clauses, ring)))
  applied_alike (a ∷ p) [] t u j h =
      applied_zero (a ∷ p) t j (λ i n e. h i n e ∙ simp (clauses, ring)) ∙ sym (applied_nil F.ops u j)
  applied_alike (a ∷ p) (b ∷ q) t u j h =
      let here : a ⊗ t j ≡ b ⊗ u j = simp clauses at (h 0 j (omega arith)) in
      let rest = applied_alike p q t u (suc j) (λ i n e. simp clauses at (h (suc i) n (omega arith))) in
      simp (applies, here, rest)

  pub applied_same : (p q : List K) → Same F.ops p q → (t : ℕ → K) (j : ℕ) → applied F.ops p t j ≡ applied F.ops q t j
  applied_same p q s t j = applied_alike p q t t j (λ i n e. ap (λ a. a ⊗ t n) (s i))

  -- a polynomial of degree m at most reads m + 1 places
  pub applied_within : (p : List K) (m : ℕ) → ((i : ℕ) → m < i → coeff F.ops p i ≡ 𝟎) → (t u : ℕ → K) (j : ℕ) → ((n : ℕ) → n ≤ j + m → t n ≡ u n)
      → applied F.ops p t j ≡ applied F.ops p u j
  applied_within p m above t u j h = applied_alike p p t u j (λ i n e. go i n e (cases_lt m i))
    where
      go : (i n : ℕ) → n ≡ j + i → (m < i) ⊎ (i ≤ m) → coeff F.ops p i ⊗ t n ≡ coeff F.ops p i ⊗ u n
      go i n e (inl l) = simp (above i l, ring)
      go i n e (inr l) = ap (λ a. coeff F.ops p i ⊗ a) (h n (omega arith))

  pub applied_plus : (p q : List K) (t : ℕ → K) (j : ℕ) → applied F.ops (plus F.ops p q) t j ≡ applied F.ops p t j ⊕ applied F.ops q t j
  applied_plus [] q t j = simp (clauses, applies, ring)
  applied_plus (a ∷ p) [] t j = simp (clauses, applies, ring)
  applied_plus (a ∷ p) (b ∷ q) t j = simp (clauses, applies, ring, applied_plus p q t (suc j))

  pub applied_scale : (c : K) (p : List K) (t : ℕ → K) (j : ℕ) → applied F.ops (scale F.ops c p) t j ≡ c ⊗ applied F.ops p t j
  unfolding scale
  applied_scale c [] t j = simp (applies, ring)
  applied_scale c (a ∷ p) t j = simp (applies, ring, applied_scale c p t (suc j))

  pub applied_shift : (n : ℕ) (p : List K) (t : ℕ → K) (j : ℕ) → applied F.ops (shift F.ops n p) t j ≡ applied F.ops p t (n + j)
  applied_shift zero p t j = simp (clauses, nat_zero_add)
  applied_shift (suc n) p t j = simp (clauses, applies, ring, applied_shift n p t (suc j), suc-add, add-suc)

  -- a monic polynomial over zeros gives what stands under its highest power
  pub applied_top : (p : List K) (m : ℕ) → Monic F.ops p m → (t : ℕ → K) (j l : ℕ) → l ≡ m + j → ((n : ℕ) → j ≤ n → n < l → t n ≡ 𝟎) → applied F.ops p t j ≡ t l
  applied_top p m h t j l e zeros =
      applied_alike p (shift F.ops m (𝟏 ∷ [])) t t j (λ i n at. go i n at (cases_lt i m) (cases_eq i m))
      ∙ applied_shift m (𝟏 ∷ []) t j
      ∙ last (m + j)
      ∙ ap t (sym e)
    where
      last : (n : ℕ) → applied F.ops (𝟏 ∷ []) t n ≡ t n
      last n = simp (applies, ring)

      one : Monic F.ops (shift F.ops m (𝟏 ∷ [])) m
      one = monic_shift F m (𝟏 ∷ []) 0 m (omega arith) (monic_unit F)

      go : (i n : ℕ) → n ≡ j + i → (i < m) ⊎ (m ≤ i) → (i ≡ m) ⊎ (i ≡ m → ⊥) → coeff F.ops p i ⊗ t n ≡ coeff F.ops (shift F.ops m (𝟏 ∷ [])) i ⊗ t n
      go i n at (inl less) c = simp (zeros n (omega arith) (omega arith), ring)
      go i n at (inr more) (inl same) = ap (λ a. a ⊗ t n) (ap (coeff F.ops p) same ∙ h.top ∙ sym (ap (coeff F.ops (shift F.ops m (𝟏 ∷ []))) same ∙ one.top))
      go i n at (inr more) (inr other) = ap (λ a. a ⊗ t n) (h.above i (omega arith) ∙ sym (one.above i (omega arith)))

  -- it is linear in the sequence, and moves with it
  applied_line : (q : List K) (c : K) (t u : ℕ → K) (j : ℕ) → applied F.ops q (λ n. c ⊗ t n ⊕ u n) j ≡ c ⊗ applied F.ops q t j ⊕ applied F.ops q u j
  applied_line [] c t u j = simp (applies, ring)
  applied_line (a ∷ q) c t u j = rw (applied_cons, applied_line q c t u (suc j)) (simp (applies, ring))

  applied_later : (q : List K) (t : ℕ → K) (j : ℕ) → applied F.ops q (λ n. t (suc n)) j ≡ applied F.ops q t (suc j)
  applied_later [] t j = simp applies
  applied_later (a ∷ q) t j = simp (applies, applied_later q t (suc j))

  -- two polynomials may be applied in either order
  pub applied_swap : (p q : List K) (t : ℕ → K) (j : ℕ) → applied F.ops p (applied F.ops q t) j ≡ applied F.ops q (applied F.ops p t) j
  unfolding applied
  applied_swap [] q t j = sym (applied_zero q (λ n. 𝟎) j (λ i n e. mul_zero F _))
  applied_swap (a ∷ p) q t j =
      ap (λ x. a ⊗ applied F.ops q t j ⊕ x) (applied_swap p q t (suc j) ∙ sym (applied_later q (applied F.ops p t) j))
      ∙ sym (applied_line q a t (λ n. applied F.ops p t (suc n)) j)

  -- a product is applied factor by factor
  pub applied_times : (p q : List K) (t : ℕ → K) (j : ℕ) → applied F.ops (times F.ops p q) t j ≡ applied F.ops p (applied F.ops q t) j
  applied_times [] q t j = simp (clauses, applies)
  applied_times (a ∷ p) q t j = simp (clauses, applied_plus, applied_scale, applies, ring, applied_times p q t (suc j))

module _ {K A : Type 0} (F : Lawful K) where
  open F.ops use {nought as 𝟎, unit as 𝟏, sum as ◌⊕◌, product as ◌⊗◌}

  infixl 60 ◌⊕◌
  infixl 70 ◌⊗◌
  psum_horner : (c : K) (e v x : A → K) (ls : List A) (j : ℕ)
      → psum F.ops (λ a. v a ⊗ (c ⊕ x a ⊗ e a)) x ls j ≡ c ⊗ psum F.ops v x ls j ⊕ psum F.ops (λ a. v a ⊗ e a) x ls (suc j)
  psum_horner c e v x [] j = simp (sums, ring)
  psum_horner c e v x (a ∷ ls) j = rw (psum_cons, psum_horner c e v x ls j) (simp (sums, ring))

  -- values that agree have the same sums
  pub psum_same : (v w x : A → K) (ls : List A) (k : ℕ) → Each (λ a. v a ≡ w a) ls → psum F.ops v x ls k ≡ psum F.ops w x ls k
  psum_same v w x [] k h = simp sums
  psum_same v w x (a ∷ ls) k h = simp (sums, h.0, psum_same v w x ls k h.1)

  -- the sum over two lists, one after the other
  pub psum_append : (v x : A → K) (ls ms : List A) (k : ℕ) → psum F.ops v x (ls ++ ms) k ≡ psum F.ops v x ls k ⊕ psum F.ops v x ms k
  psum_append v x [] ms k = simp (sums, ring)
  psum_append v x (a ∷ ls) ms k = simp (sums, ring, psum_append v x ls ms k)

  -- applied to power sums, a polynomial multiplies each value by its own value at the locator
  pub applied_psum : (p : List K) (v x : A → K) (ls : List A) (j : ℕ)
      → applied F.ops p (psum F.ops v x ls) j ≡ psum F.ops (λ a. v a ⊗ value F.ops p (x a)) x ls j
  applied_psum [] v x ls j =
      applied_nil F.ops _ j
      ∙ sym (psum_zero F (λ a. v a ⊗ value F.ops [] (x a)) x ls j (all_of (λ a. v a ⊗ value F.ops [] (x a) ≡ 𝟎) (λ a. simp (values, ring)) ls))
  applied_psum (c ∷ p) v x ls j =
      applied_cons F.ops c p _ j
      ∙ ap (λ t. c ⊗ psum F.ops v x ls j ⊕ t) (applied_psum p v x ls (suc j))
      ∙ sym (psum_horner c (λ a. value F.ops p (x a)) v x ls j)
      ∙ psum_same _ _ x ls j (all_of (λ a. v a ⊗ (c ⊕ x a ⊗ value F.ops p (x a)) ≡ v a ⊗ value F.ops (c ∷ p) (x a)) (λ a. ap (λ t. v a ⊗ t) (sym (value_cons F c p (x a)))) ls)
