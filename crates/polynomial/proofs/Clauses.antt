-- The clauses of the definitions as equations, and the coefficients of sums and multiples: `simp (coeffs, ring)` proves what follows from them.
use Rattle.std.proofs.Common.{◌≡◌, ℕ, zero, suc, max, List, [], ◌∷◌, length, sym, refl, ap, ◌∙◌, arith}
use Rattle.field.specs.Field.{Ops, power}
use Rattle.field.specs.Polynomial.{value}
use Rattle.field.proofs.Ring.{Lawful, ring}
use Rattle.field.proofs.Horner.{horner, value_horner}
use Rattle.polynomial.specs.Coefficients.{coeff, plus, scale, times, crossed, shift}

module _ {K : Type 0} (o : Ops K) where
  pub coeff_nil : (i : ℕ) → coeff o [] i ≡ o.nought
  unfolding coeff
  coeff_nil i = refl

  pub coeff_zero : (a : K) (p : List K) → coeff o (a ∷ p) 0 ≡ a
  unfolding coeff
  coeff_zero a p = refl

  pub coeff_suc : (a : K) (p : List K) (i : ℕ) → coeff o (a ∷ p) (suc i) ≡ coeff o p i
  unfolding coeff
  coeff_suc a p i = refl

  pub plus_nil : (q : List K) → plus o [] q ≡ q
  unfolding plus
  plus_nil q = refl

  pub plus_cons_nil : (a : K) (p : List K) → plus o (a ∷ p) [] ≡ a ∷ p
  unfolding plus
  plus_cons_nil a p = refl

  pub plus_cons : (a b : K) (p q : List K) → plus o (a ∷ p) (b ∷ q) ≡ o.sum a b ∷ plus o p q
  unfolding plus
  plus_cons a b p q = refl

  pub times_nil : (q : List K) → times o [] q ≡ []
  unfolding times
  times_nil q = refl

  pub times_cons : (a : K) (p q : List K) → times o (a ∷ p) q ≡ plus o (scale o a q) (o.nought ∷ times o p q)
  unfolding times
  times_cons a p q = refl

  pub shift_zero : (p : List K) → shift o 0 p ≡ p
  unfolding shift
  shift_zero p = refl

  pub shift_suc : (n : ℕ) (p : List K) → shift o (suc n) p ≡ o.nought ∷ shift o n p
  unfolding shift
  shift_suc n p = refl

  pub crossed_zero : (p q : List K) (i : ℕ) → crossed o p q i 0 ≡ o.product (coeff o p i) (coeff o q 0)
  unfolding crossed
  crossed_zero p q i = refl

  pub crossed_suc : (p q : List K) (i j : ℕ) → crossed o p q i (suc j) ≡ o.sum (o.product (coeff o p i) (coeff o q (suc j))) (crossed o p q (suc i) j)
  unfolding crossed
  crossed_suc p q i j = refl

  pub power_zero : (x : K) → power o x 0 ≡ o.unit
  unfolding power
  power_zero x = refl

  pub power_suc : (x : K) (n : ℕ) → power o x (suc n) ≡ o.product x (power o x n)
  unfolding power
  power_suc x n = refl

  -- the lengths of sums and multiples
  pub length_plus : (p q : List K) → length (plus o p q) ≡ max (length p) (length q)
  unfolding plus
  length_plus [] q = omega arith
  length_plus (a ∷ p) [] = omega arith
  length_plus (a ∷ p) (b ∷ q) = let h = length_plus p q in omega arith

  pub length_scale : (c : K) (p : List K) → length (scale o c p) ≡ length p
  unfolding scale
  length_scale c [] = refl
  length_scale c (a ∷ p) = ap suc (length_scale c p)

pub ruleset clauses = (coeff_nil, coeff_zero, coeff_suc, plus_nil, plus_cons_nil, plus_cons, times_nil, times_cons, shift_zero, shift_suc, crossed_zero, crossed_suc)

module _ {K : Type 0} (F : Lawful K) where
  open F.ops use {nought as 𝟎, unit as 𝟏, sum as ◌⊕◌, product as ◌⊗◌}

  infixl 60 ◌⊕◌
  infixl 70 ◌⊗◌
  pub coeff_plus : (p q : List K) (i : ℕ) → coeff F.ops (plus F.ops p q) i ≡ coeff F.ops p i ⊕ coeff F.ops q i
  coeff_plus [] q i = simp (clauses, ring)
  coeff_plus (a ∷ p) [] i = simp (clauses, ring)
  coeff_plus (a ∷ p) (b ∷ q) zero = simp clauses
  coeff_plus (a ∷ p) (b ∷ q) (suc i) = simp (clauses, coeff_plus p q i)

  pub coeff_scale : (c : K) (p : List K) (i : ℕ) → coeff F.ops (scale F.ops c p) i ≡ c ⊗ coeff F.ops p i
  unfolding scale
  coeff_scale c [] i = simp (clauses, ring)
  coeff_scale c (a ∷ p) zero = simp clauses
  coeff_scale c (a ∷ p) (suc i) = simp (clauses, coeff_scale c p i)

  -- the values
  pub value_nil : (x : K) → value F.ops [] x ≡ 𝟎
  unfolding horner
  value_nil x = value_horner F [] x

  pub value_cons : (c : K) (p : List K) (x : K) → value F.ops (c ∷ p) x ≡ c ⊕ x ⊗ value F.ops p x
  unfolding horner
  value_cons c p x = value_horner F (c ∷ p) x ∙ ap (λ t. c ⊕ x ⊗ t) (sym (value_horner F p x))

pub ruleset coeffs = (clauses, coeff_plus, coeff_scale)

pub ruleset values = (value_nil, value_cons)
