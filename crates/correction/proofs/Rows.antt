-- Rows of elements that a loop fills or changes place by place, and sums that it makes of them.
use Rattle.std.proofs.Common.{◌≡◌, ℕ, zero, suc, ◌+◌, ◌<◌, ◌≤◌, ◌⊎◌, List, [], ◌∷◌, ◌++◌, length, get_or, take, set, sym, refl, ap, ◌∙◌, ap₂, inl, inr, add-one, append_assoc, append-nil, arith}
use Rattle.std.proofs.lemmas.Bool.{cases_eq}
use Rattle.field.specs.Field.{power}
use Rattle.field.specs.Polynomial.{value}
use Rattle.field.proofs.Ring.{Lawful, ring, mul_one, mul_left_comm}
use Rattle.polynomial.specs.Coefficients.{coeff, Nought}
use Rattle.polynomial.proofs.Clauses.{clauses, values, value_cons, coeff_suc, power_zero, power_suc}
use Rattle.polynomial.proofs.Entries.{coeff_past, coeff_read, coeff_set_here, coeff_set_other}
use Rattle.locator.specs.Applied.{applied}
use Rattle.locator.proofs.Sequences.{applies, applied_zero}

module _ {K : Type 0} (F : Lawful K) where
  open F.ops use {nought as 𝟎, unit as 𝟏, sum as ◌⊕◌, product as ◌⊗◌}

  infixl 60 ◌⊕◌
  infixl 70 ◌⊗◌
  -- one place more of a row is as it should be
  pub row_next : (f : ℕ → K) (row : List K) (k : ℕ) (v : K) → k < length row → v ≡ f k → ((j : ℕ) → j < k → coeff F.ops row j ≡ f j)
      → (j : ℕ) → j < k + 1 → coeff F.ops (set row k v) j ≡ f j
  row_next f row k v within is so_far j h = go (cases_eq j k)
    where
      go : (j ≡ k) ⊎ (j ≡ k → ⊥) → coeff F.ops (set row k v) j ≡ f j
      go (inl e) = ap (coeff F.ops (set row k v)) e ∙ coeff_set_here F.ops row k v within ∙ is ∙ sym (ap f e)
      go (inr ne) = coeff_set_other F.ops row k j v ne ∙ so_far j (omega arith)

  -- the first k places are changed by f, and the others are as they were
  abbrev pub Changed : (ℕ → K → K) → List K → List K → ℕ → Type 0
  Changed f start row k =
      ((j : ℕ) → j < k → coeff F.ops row j ≡ f j (coeff F.ops start j)) × ((j : ℕ) → k ≤ j → coeff F.ops row j ≡ coeff F.ops start j)

  pub changed_none : (f : ℕ → K → K) (start : List K) → Changed f start start 0
  changed_none f start = (λ j h. absurd (omega arith), λ j h. refl)

  -- what is read at place k is what stood there
  pub changed_here : (f : ℕ → K → K) (start row : List K) (k : ℕ) (a : K) → k < length row → a ≡ get_or row k a → Changed f start row k → a ≡ coeff F.ops start k
  changed_here f start row k a within is so_far = coeff_read F.ops row k a within is ∙ so_far.1 k (omega arith)

  pub changed_next : (f : ℕ → K → K) (start row : List K) (k : ℕ) (a v : K) → k < length row → a ≡ get_or row k a → v ≡ f k a → Changed f start row k → Changed f start (set row k v) (k + 1)
  changed_next f start row k a v within is told so_far = (
    row_next (λ j. f j (coeff F.ops start j)) row k v within (told ∙ ap (f k) (changed_here f start row k a within is so_far)) so_far.0,
    λ j h. coeff_set_other F.ops row k j v (λ e. absurd (omega arith)) ∙ so_far.1 j (omega arith),
  )

  -- multiples of powers
  pub multiple_none : (y x : K) → y ≡ y ⊗ power F.ops x 0
  multiple_none y x = sym (ap (λ t. y ⊗ t) (power_zero F.ops x) ∙ mul_one F y)

  pub multiple_next : (y x a b : K) (k : ℕ) → a ≡ y ⊗ power F.ops x k → b ≡ x ⊗ a → b ≡ y ⊗ power F.ops x (k + 1)
  multiple_next y x a b k is told =
      told ∙ ap (λ t. x ⊗ t) is ∙ mul_left_comm F x y (power F.ops x k)
      ∙ ap (λ t. y ⊗ t) (sym (ap (power F.ops x) (add-one k) ∙ power_suc F.ops x k))

  -- a polynomial reads two sequences alike, from any place of each
  pub applied_moved : (p : List K) (t u : ℕ → K) (i j : ℕ) → ((k m n : ℕ) → m ≡ i + k → n ≡ j + k → coeff F.ops p k ⊗ t m ≡ coeff F.ops p k ⊗ u n)
      → applied F.ops p t i ≡ applied F.ops p u j
  applied_moved [] t u i j same = simp applies
  applied_moved (a ∷ p) t u i j same =
      let here : a ⊗ t i ≡ a ⊗ u j = simp clauses at (same 0 i j (omega arith) (omega arith)) in
      let rest = applied_moved p t u (suc i) (suc j) (λ k m n e f. simp clauses at (same (suc k) m n (omega arith) (omega arith))) in
      simp (applies, here, rest)

  -- a polynomial applied to a sequence, term by term: what is left of both
  pub apply_next : (p q s t : List K) (x y m v sum all : K) → p ≡ x ∷ q → s ≡ y ∷ t → m ≡ x ⊗ y → v ≡ sum ⊕ m
      → sum ⊕ applied F.ops p (coeff F.ops s) 0 ≡ all → v ⊕ applied F.ops q (coeff F.ops t) 0 ≡ all
  apply_next p q s t x y m v sum all is_p is_s is_m is_v so_far =
      ap₂ ◌⊕◌ (is_v ∙ ap (λ a. sum ⊕ a) is_m) (sym later)
      ∙ regrouped sum (x ⊗ y) (applied F.ops q (coeff F.ops (y ∷ t)) 1)
      ∙ ap (λ a. sum ⊕ a) (sym (ap₂ (λ p s. applied F.ops p (coeff F.ops s) 0) is_p is_s ∙ simp (applies, clauses)))
      ∙ so_far
    where
      regrouped : (x y z : K) → x ⊕ y ⊕ z ≡ x ⊕ (y ⊕ z)
      regrouped x y z = simp ring

      later : applied F.ops q (coeff F.ops (y ∷ t)) 1 ≡ applied F.ops q (coeff F.ops t) 0
      later =
          applied_moved q (coeff F.ops (y ∷ t)) (coeff F.ops t) 1 0
          (λ k m n i j. let e : m ≡ suc n = omega arith in ap (λ a. coeff F.ops q k ⊗ a) (ap (coeff F.ops (y ∷ t)) e ∙ coeff_suc F.ops y t n))

  pub apply_all : (p s : List K) (sum all : K) → (length p ≡ 0) ⊎ (length s ≡ 0) → sum ⊕ applied F.ops p (coeff F.ops s) 0 ≡ all → sum ≡ all
  apply_all p s sum all ended so_far = sym (ap (λ a. sum ⊕ a) (applied_zero F p (coeff F.ops s) 0 (λ i n e. none i n ended)) ∙ simp ring) ∙ so_far
    where
      none : (i n : ℕ) → (length p ≡ 0) ⊎ (length s ≡ 0) → coeff F.ops p i ⊗ coeff F.ops s n ≡ 𝟎
      none i n (inl h) = ap (λ a. a ⊗ coeff F.ops s n) (coeff_past F.ops p i (omega arith)) ∙ simp ring
      none i n (inr h) = ap (λ a. coeff F.ops p i ⊗ a) (coeff_past F.ops s n (omega arith)) ∙ simp ring

  -- the sum of a row, as its value at one
  value_take : (p : List K) (i : ℕ) → value F.ops (take (suc i) p) 𝟏 ≡ value F.ops (take i p) 𝟏 ⊕ coeff F.ops p i
  value_take [] zero = simp (clauses, values, ring)
  value_take [] (suc i) = simp (clauses, values, ring)
  value_take (a ∷ []) zero = simp (clauses, values, ring)
  value_take (a ∷ b ∷ p) zero = simp (clauses, values, ring)
  value_take (a ∷ p) (suc i) = simp (clauses, values, ring, value_take p i)

  pub sum_none : (p : List K) → value F.ops (take 0 p) 𝟏 ≡ 𝟎
  sum_none [] = simp values
  sum_none (a ∷ p) = simp values

  pub sum_next : (p : List K) (i : ℕ) (a v sum : K) → a ≡ coeff F.ops p i → v ≡ sum ⊕ a → sum ≡ value F.ops (take i p) 𝟏 → v ≡ value F.ops (take (i + 1) p) 𝟏
  sum_next p i a v sum is told so_far =
      told ∙ ap₂ ◌⊕◌ so_far is ∙ sym (ap (λ m. value F.ops (take m p) 𝟏) (add-one i) ∙ value_take p i)

  -- Horner's rule at each point of a row: `rest` is still to come, from its end
  abbrev pub Halfway : List K → List K → List K → List K → Type 0
  Halfway coefficients points row rest =
      (done : List K) × (coefficients ≡ rest ++ done) × ((k : ℕ) → k < 32 → coeff F.ops row k ≡ value F.ops done (coeff F.ops points k))

  pub values_none : (coefficients points row rest : List K) → rest ≡ coefficients → Nought F.ops row → Halfway coefficients points row rest
  values_none coefficients points row rest e none = ([], sym e ∙ sym (append-nil rest), λ k h. none k ∙ zero_value (coeff F.ops points k))
    where
      zero_value : (x : K) → 𝟎 ≡ value F.ops [] x
      zero_value x = simp values

  pub values_next : (coefficients points row row' rest rest' : List K) (a : K) → rest ≡ rest' ++ a ∷ []
      → ((k : ℕ) → k < 32 → coeff F.ops row' k ≡ a ⊕ coeff F.ops points k ⊗ coeff F.ops row k) → Halfway coefficients points row rest → Halfway coefficients points row' rest'
  values_next coefficients points row row' rest rest' a e told (done, is, so_far) = (
    a ∷ done,
    is ∙ ap (λ r. r ++ done) e ∙ append_assoc rest' (a ∷ []) done,
    λ k h. told k h ∙ ap (λ t. a ⊕ coeff F.ops points k ⊗ t) (so_far k h) ∙ sym (value_cons F a done (coeff F.ops points k)),
  )

  pub values_all : (coefficients points row rest : List K) → length rest ≡ 0 → Halfway coefficients points row rest
      → (k : ℕ) → k < 32 → coeff F.ops row k ≡ value F.ops coefficients (coeff F.ops points k)
  values_all coefficients points row [] e (done, is, so_far) k h = so_far k h ∙ ap (λ p. value F.ops p (coeff F.ops points k)) (sym is)
  values_all coefficients points row (a ∷ rest) e halfway k h = absurd (omega arith)
