-- A root's factor taken off, and how many roots a polynomial has.
use Rattle.std.proofs.Common.{◌≡◌, zero, suc, ◌≤◌, List, [], ◌∷◌, length, sym, refl, ap, ◌∙◌, ap₂, arith}
use Rattle.field.specs.Polynomial.{value, Vanishes}
use Rattle.field.proofs.Ring.{Lawful, ring, add_zero, eq_of_sum, no_divisor}
use Rattle.polynomial.specs.Coefficients.{Nought}
use Rattle.polynomial.specs.Laws.{FewRoots}
use Rattle.polynomial.proofs.Clauses.{clauses, values, value_cons}
use Rattle.polynomial.proofs.Entries.{nought_cons, nought_rest}

module _ {K : Type 0} (F : Lawful K) where
  open F.ops use {nought as 𝟎, sum as ◌⊕◌, product as ◌⊗◌}

  infixl 60 ◌⊕◌
  infixl 70 ◌⊗◌
  -- the polynomial c + x·p without its factor x + r, whatever c is
  unfoldable pub deflated : K → List K → List K
  deflated r [] = []
  deflated r (d ∷ p) = value F.ops (d ∷ p) r ∷ deflated r p

  length_deflated : (r : K) (p : List K) → length (deflated r p) ≡ length p
  unfolding deflated
  length_deflated r [] = refl
  length_deflated r (d ∷ p) = ap suc (length_deflated r p)

  moved_out : (c x r q v : K) → c ⊕ x ⊗ (q ⊗ (x ⊕ r) ⊕ v) ≡ (v ⊕ x ⊗ q) ⊗ (x ⊕ r) ⊕ (c ⊕ r ⊗ v)
  moved_out c x r q v = simp ring

  -- the value at x is that of the deflated polynomial times x + r, and the value at r
  pub value_deflated : (r c : K) (p : List K) (x : K) → value F.ops (c ∷ p) x ≡ value F.ops (deflated r p) x ⊗ (x ⊕ r) ⊕ value F.ops (c ∷ p) r
  unfolding deflated
  value_deflated r c [] x = simp (values, ring)
  value_deflated r c (d ∷ p) x =
      value_cons F c (d ∷ p) x
      ∙ ap (λ t. c ⊕ x ⊗ t) (value_deflated r d p x)
      ∙ moved_out c x r (value F.ops (deflated r p) x) (value F.ops (d ∷ p) r)
      ∙ sym (ap₂ (λ s t. s ⊗ (x ⊕ r) ⊕ t) (value_cons F (value F.ops (d ∷ p) r) (deflated r p) x) (value_cons F c (d ∷ p) r))

  -- with a zero deflated polynomial and a root at r all is zero
  nought_inflated : (r c : K) (p : List K) → Nought F.ops (deflated r p) → value F.ops (c ∷ p) r ≡ 𝟎 → Nought F.ops (c ∷ p)
  unfolding deflated
  nought_inflated r c [] z e = nought_cons F.ops c [] (simp (values, ring) at e) z
  nought_inflated r c (d ∷ p) z e =
      let root : value F.ops (d ∷ p) r ≡ 𝟎 = simp clauses at (z 0) in
      let first : c ≡ 𝟎 = sym (value_cons F c (d ∷ p) r ∙ simp (root, ring)) ∙ e in
      nought_cons F.ops c (d ∷ p) first (nought_inflated r d p (nought_rest F.ops _ _ z) root)

  pub few_roots : FewRoots F.ops
  few_roots n f apart [] short roots = λ i. simp clauses
  few_roots zero f apart (c ∷ p) short roots = absurd (omega arith)
  few_roots (suc n) f apart (c ∷ p) short roots =
      let r = f n in
      let last = roots n (omega arith) in
      let fewer : length (deflated r p) ≤ n = omega (arith, length_deflated r p) in
      let others : Vanishes F.ops f n (deflated r p) = λ i h. no_divisor F (value F.ops (deflated r p) (f i)) (f i ⊕ r)
      (sym (add_zero F _) ∙ ap (λ t. value F.ops (deflated r p) (f i) ⊗ (f i ⊕ r) ⊕ t) (sym last) ∙ sym (value_deflated r c p (f i)) ∙ roots i (omega arith))
      (λ e. let same : i ≡ n = apart i n (omega arith) (omega arith) (eq_of_sum F (f i) r e) in omega arith) in
      nought_inflated r c p (few_roots n f (λ i j hi hj e. apart i j (omega arith) (omega arith) e) (deflated r p) fewer others) last
