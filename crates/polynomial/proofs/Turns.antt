-- A turn of long division: the top coefficient that is left goes away, and the sum of a multiple and the rest stays.
use Rattle.std.proofs.Common.{◌≡◌, ℕ, zero, suc, ◌+◌, ◌-◌, ◌<◌, ◌≤◌, ◌⊎◌, List, [], ◌∷◌, length, get_or, take, Some, None, sym, ap, ◌∙◌, subst, ap₂, inl, inr, arith, length-take-le}
use Rattle.std.proofs.lemmas.Bool.{cases_eq, cases_lt}
use Rattle.field.proofs.Ring.{Lawful, ring, mul_assoc, mul_comm}
use Rattle.polynomial.specs.Coefficients.{coeff, Same, plus, times, shift, Degree, Remainder}
use Rattle.polynomial.specs.Division.{Reduced}
use Rattle.polynomial.proofs.Clauses.{coeffs, clauses, coeff_plus}
use Rattle.polynomial.proofs.Entries.{coeff_past, coeff_read, coeff_take}
use Rattle.polynomial.proofs.Algebra.{times_plus, shift_above}
use Rattle.polynomial.proofs.Remainders.{one_list}
use Rattle.polynomial.proofs.Degrees.{degree_inside, one_degree}
use Rattle.polynomial.proofs.Multiples.{Added, added_all}

module _ {K : Type 0} (F : Lawful K) where
  open F.ops use {nought as 𝟎, unit as 𝟏, sum as ◌⊕◌, product as ◌⊗◌}

  infixl 60 ◌⊕◌
  infixl 70 ◌⊗◌
  -- a polynomial has its coefficients up to its degree
  front : (by : List K) (m : ℕ) → Degree F.ops by m → (i : ℕ) → coeff F.ops (take (m + 1) by) i ≡ coeff F.ops by i
  front by m deg i = go (cases_lt i (m + 1))
    where
      go : (i < m + 1) ⊎ (m + 1 ≤ i) → coeff F.ops (take (m + 1) by) i ≡ coeff F.ops by i
      go (inl h) = coeff_take F.ops by (m + 1) i h
      go (inr h) =
          coeff_past F.ops _ i (let e = length-take-le (m + 1) by (let w = degree_inside F.ops by m deg in omega arith) in omega arith) ∙ sym (deg.above i (omega arith))

  shift_same : (k : ℕ) (p q : List K) → Same F.ops p q → Same F.ops (shift F.ops k p) (shift F.ops k q)
  shift_same zero p q s i = simp clauses (s i)
  shift_same (suc k) p q s zero = simp clauses
  shift_same (suc k) p q s (suc i) = simp clauses (shift_same k p q s i)

  nought_alone : (i : ℕ) → coeff F.ops (𝟎 ∷ []) i ≡ 𝟎
  nought_alone zero = simp clauses
  nought_alone (suc i) = simp clauses

  -- f·x^k times a polynomial
  pub times_monomial : (k : ℕ) (f : K) (p : List K) (i : ℕ) → coeff F.ops (times F.ops (shift F.ops k (f ∷ [])) p) i ≡ f ⊗ coeff F.ops (shift F.ops k p) i
  times_monomial zero f p i = simp (coeffs, nought_alone i, ring)
  times_monomial (suc k) f p zero = simp (coeffs, ring)
  times_monomial (suc k) f p (suc i) = simp (coeffs, ring, times_monomial k f p i)

  twice : (x y z : K) → x ⊕ y ≡ (x ⊕ z) ⊕ (y ⊕ z)
  twice x y z = simp ring

  cancels : (a t r : K) → t ⊗ r ≡ 𝟏 → a ⊕ (a ⊗ r) ⊗ t ≡ 𝟎
  cancels a t r e = ap (λ u. a ⊕ u) (mul_assoc F a r t ∙ ap (λ u. a ⊗ u) (mul_comm F r t ∙ e)) ∙ simp ring

  -- `start` is a multiple of `by` and the buffer, which has no power from x^(n+m) on
  abbrev pub Partly : List K → List K → ℕ → ℕ → List K → Type 0
  Partly start by m n buffer =
      ((q : List K) × Same F.ops start (plus F.ops (times F.ops q by) buffer)) × ((i : ℕ) → n + m ≤ i → coeff F.ops buffer i ≡ 𝟎)

  pub divide_start : (buffer by : List K) (m n : ℕ) → length buffer ≤ n + m → Partly buffer by m n buffer
  divide_start buffer by m n h = (([], λ i. simp coeffs), λ i l. coeff_past F.ops buffer i (omega arith))

  module _ (start buffer last by : List K) (m n : ℕ) (a f reciprocal : K) (deg : Degree F.ops by m) (some : 0 < n) (room : n - 1 + m < length buffer) (is_a : a ≡ get_or buffer (n - 1 + m) a)
      (inverts : coeff F.ops by m ⊗ reciprocal ≡ 𝟏) (is_f : f ≡ a ⊗ reciprocal) (long : length last ≡ length buffer) (front_added : Added F buffer last (n - 1) f (take (m + 1) by)) where
    added : Added F buffer last (n - 1) f by
    added i h = front_added i h ∙ ap (λ t. coeff F.ops buffer i ⊕ f ⊗ t) (shift_same (n - 1) _ _ (front by m deg) i)

    -- no coefficient is lost beyond the buffer
    added_by : (i : ℕ) → coeff F.ops last i ≡ coeff F.ops buffer i ⊕ f ⊗ coeff F.ops (shift F.ops (n - 1) by) i
    added_by = added_all F buffer last (n - 1) f by long added past
      where
        past : (i : ℕ) → length buffer ≤ i → coeff F.ops (shift F.ops (n - 1) by) i ≡ 𝟎
        past i h =
            let d = i - (n - 1) in
            let e : i ≡ n - 1 + d = omega arith in
            ap (coeff F.ops (shift F.ops (n - 1) by)) e ∙ shift_above F (n - 1) by d ∙ deg.above d (omega arith)

    low : ((i : ℕ) → n + m ≤ i → coeff F.ops buffer i ≡ 𝟎) → (i : ℕ) → n - 1 + m ≤ i → (i ≡ n - 1 + m) ⊎ (i ≡ n - 1 + m → ⊥) → coeff F.ops last i ≡ 𝟎
    low so_far i h (inl e) =
        ap (coeff F.ops last) e ∙ added_by (n - 1 + m)
        ∙ ap₂ (λ t u. t ⊕ u) (sym (coeff_read F.ops buffer (n - 1 + m) a room is_a)) (ap₂ ◌⊗◌ is_f (shift_above F (n - 1) by m))
        ∙ cancels a (coeff F.ops by m) reciprocal inverts
    low so_far i h (inr ne) =
        let d = i - (n - 1) in
        let e : i ≡ n - 1 + d = omega arith in
        added_by i
        ∙ ap₂ (λ t u. t ⊕ f ⊗ u) (so_far i (omega arith)) (ap (coeff F.ops (shift F.ops (n - 1) by)) e ∙ shift_above F (n - 1) by d ∙ deg.above d (omega arith))
        ∙ simp ring

    pub divide_next : Partly start by m n buffer → Partly start by m (n - 1) last
    divide_next so_far =
        let q = so_far.0.0 in
        let s = shift F.ops (n - 1) (f ∷ []) in (
          (
            plus F.ops q s,
            λ i. so_far.0.1 i ∙ coeff_plus F _ _ i ∙ twice _ _ (f ⊗ coeff F.ops (shift F.ops (n - 1) by) i)
                ∙ sym (coeff_plus F _ _ i ∙ ap₂ ◌⊕◌ (times_plus F q s by i ∙ coeff_plus F _ _ i ∙ ap (λ t. coeff F.ops (times F.ops q by) i ⊕ t) (times_monomial (n - 1) f by i)) (added_by i)),
          ),
          λ i h. low so_far.1 i h (cases_eq i (n - 1 + m)),
        )

  pub divide_end : (start buffer by : List K) (m n : ℕ) → n ≤ 0 → length buffer ≡ length start → Degree F.ops by m → Partly start by m n buffer → Reduced F.ops start by buffer
  divide_end start buffer by m n none long deg so_far = record { long = long; degree = m; remainder = left; only = only }
    where
      left : Remainder F.ops by m start buffer
      left = record { degree = deg; quotient = so_far.0.0; sum = so_far.0.1; low = λ i h. so_far.1 i (omega arith) }

      only : (k : ℕ) (r : List K) → length r ≡ length start → Remainder F.ops by k start r → r ≡ buffer
      only k r l R =
          let e : k ≡ m = one_degree F.ops by k m R.degree deg in
          one_list F by m start r buffer (subst (λ j. Remainder F.ops by j start r) e R) left (l ∙ sym long)

  -- the top coefficient x of a divisor has a reciprocal, and that is what it is told to be
  module _ (by : List K) (m : ℕ) (x : K) (deg : Degree F.ops by m) (is : x ≡ get_or by m x) where
    top_is : x ≡ coeff F.ops by m
    top_is = coeff_read F.ops by m x (degree_inside F.ops by m deg) is

    pub top_inverse : (y : K) → Some y ≡ F.ops.reciprocal x → coeff F.ops by m ⊗ y ≡ 𝟏
    top_inverse y e =
        let r = F.laws.has_reciprocal x (λ z. deg.top (sym top_is ∙ z)) in
        let same : y ≡ r.0 = (let z : Some y ≡ Some r.0 = e ∙ r.1 in cc) in
        ap₂ ◌⊗◌ (sym top_is) same ∙ r.2

    pub top_inverts : F.ops.reciprocal x ≡ None → ⊥
    top_inverts e = let r = F.laws.has_reciprocal x (λ z. deg.top (sym top_is ∙ z)) in let z : Some r.0 ≡ None = sym r.1 ∙ e in cc
