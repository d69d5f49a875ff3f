-- A monic polynomial divided by x + r: its value, its degree, and how many roots it can have.
use Rattle.std.proofs.Common.{◌≡◌, ℕ, zero, suc, ◌+◌, ◌<◌, ◌≤◌, List, [], ◌∷◌, length, drop, sym, refl, ap, ◌∙◌, arith}
use Rattle.std.proofs.lemmas.List.{get_or-drop}
use Rattle.field.specs.Polynomial.{value}
use Rattle.field.proofs.Ring.{Lawful, ring, add_zero, eq_of_sum, no_divisor}
use Rattle.polynomial.specs.Coefficients.{coeff, Same, Monic}
use Rattle.polynomial.specs.Sums.{Each, Distinct}
use Rattle.polynomial.proofs.Clauses.{clauses, values, coeff_suc}
use Rattle.polynomial.proofs.Algebra.{value_zero, value_same}
use Rattle.polynomial.proofs.Factors.{deflated as quotient, value_deflated as value_quotient}
use Rattle.polynomial.proofs.Sums.{all_both}
use Rattle.locator.specs.Applied.{tails, deflated}

module _ {K : Type 0} (F : Lawful K) where
  open F.ops use {nought as 𝟎, unit as 𝟏, sum as ◌⊕◌, product as ◌⊗◌}

  infixl 60 ◌⊕◌
  infixl 70 ◌⊗◌
  tails_quotient : (r : K) (p : List K) → tails F.ops r p ≡ quotient F r p
  unfolding tails quotient
  tails_quotient r [] = refl
  tails_quotient r (a ∷ p) = ap (λ q. value F.ops (a ∷ p) r ∷ q) (tails_quotient r p)

  -- p(x) is the value of the quotient times x + r, and p(r)
  pub value_deflated : (r : K) (p : List K) (x : K) → value F.ops p x ≡ value F.ops (deflated F.ops r p) x ⊗ (x ⊕ r) ⊕ value F.ops p r
  unfolding tails deflated
  value_deflated r [] x = simp (values, ring)
  value_deflated r (a ∷ p) x = value_quotient F r a p x ∙ ap (λ q. value F.ops q x ⊗ (x ⊕ r) ⊕ value F.ops (a ∷ p) r) (sym (tails_quotient r p))

  -- the coefficients of what synthetic division makes
  pub coeff_tails : (r : K) (p : List K) (i : ℕ) → coeff F.ops (tails F.ops r p) i ≡ value F.ops (drop i p) r
  unfolding tails
  coeff_tails r [] zero = simp (clauses, values)
  coeff_tails r [] (suc i) = simp (clauses, values)
  coeff_tails r (a ∷ p) zero = simp clauses
  coeff_tails r (a ∷ p) (suc i) = coeff_suc F.ops _ (tails F.ops r p) i ∙ coeff_tails r p i

  pub coeff_deflated : (r : K) (p : List K) (i : ℕ) → coeff F.ops (deflated F.ops r p) i ≡ value F.ops (drop (suc i) p) r
  unfolding tails deflated
  coeff_deflated r [] i = simp (clauses, values)
  coeff_deflated r (a ∷ p) i = coeff_tails r p i

  pub length_tails : (r : K) (p : List K) → length (tails F.ops r p) ≡ length p
  unfolding tails
  length_tails r [] = refl
  length_tails r (a ∷ p) = ap suc (length_tails r p)

  pub tails_drop : (r : K) (i : ℕ) (p : List K) → tails F.ops r (drop i p) ≡ drop i (tails F.ops r p)
  unfolding tails
  tails_drop r zero [] = refl
  tails_drop r zero (a ∷ p) = refl
  tails_drop r (suc i) [] = refl
  tails_drop r (suc i) (a ∷ p) = tails_drop r i p

  pub deflated_tails : (r : K) (p : List K) → deflated F.ops r p ≡ tails F.ops r (drop 1 p)
  unfolding deflated
  deflated_tails r p = sym (tails_drop r 1 p)

  pub coeff_drop : (n : ℕ) (p : List K) (i : ℕ) → coeff F.ops (drop n p) i ≡ coeff F.ops p (n + i)
  unfolding coeff
  coeff_drop n p i = get_or-drop n p i 𝟎

  -- zeros on top do not count
  pub deflated_same : (r : K) (p q : List K) → Same F.ops p q → Same F.ops (deflated F.ops r p) (deflated F.ops r q)
  deflated_same r p q s i =
      coeff_deflated r p i
      ∙ value_same F (drop (suc i) p) (drop (suc i) q) (λ j. coeff_drop (suc i) p j ∙ s (suc i + j) ∙ sym (coeff_drop (suc i) q j)) r
      ∙ sym (coeff_deflated r q i)

  -- a polynomial with no power of x has one value
  value_constant : (p : List K) (x : K) → ((i : ℕ) → coeff F.ops p (suc i) ≡ 𝟎) → value F.ops p x ≡ coeff F.ops p 0
  value_constant [] x h = simp (clauses, values)
  value_constant (a ∷ p) x h = simp (clauses, values, value_zero F p (λ i. simp clauses at (h i)) x, ring)

  pub no_root : (p : List K) (x : K) → Monic F.ops p 0 → value F.ops p x ≡ 𝟎 → ⊥
  no_root p x h e = F.laws.differ (sym e ∙ value_constant p x (λ i. h.above (suc i) (omega arith)) ∙ h.top)

  pub monic_deflated : (r : K) (p : List K) (m : ℕ) → Monic F.ops p (suc m) → Monic F.ops (deflated F.ops r p) m
  monic_deflated r p m h = record {
    top =
        let at : suc m + 0 ≡ suc m = omega arith in
        coeff_deflated r p m
        ∙ value_constant (drop (suc m) p) r (λ i. coeff_drop (suc m) p (suc i) ∙ h.above (suc m + suc i) (omega arith))
        ∙ coeff_drop (suc m) p 0
        ∙ ap (coeff F.ops p) at
        ∙ h.top;
    above = λ i l. coeff_deflated r p i ∙ value_zero F (drop (suc i) p) (λ j. coeff_drop (suc i) p j ∙ h.above (suc i + j) (omega arith)) r;
  }

  -- the quotient by a root vanishes at the other roots
  pub other_root : (p : List K) (r x : K) → value F.ops p r ≡ 𝟎 → (x ≡ r → ⊥) → value F.ops p x ≡ 𝟎 → value F.ops (deflated F.ops r p) x ≡ 𝟎
  other_root p r x root other e =
      no_divisor F _ (x ⊕ r) (sym (add_zero F _) ∙ ap (λ t. value F.ops (deflated F.ops r p) x ⊗ (x ⊕ r) ⊕ t) (sym root) ∙ sym (value_deflated r p x) ∙ e)
      (λ z. other (eq_of_sum F x r z))

module _ {K A : Type 0} (F : Lawful K) (x : A → K) where
  open F.ops use {nought as 𝟎, unit as 𝟏, sum as ◌⊕◌, product as ◌⊗◌}

  -- one root beside others
  beside : (ls : List A) (p : List K) (m : ℕ) (y : K) → Monic F.ops p m → value F.ops p y ≡ 𝟎 → Each (λ a. x a ≡ y → ⊥) ls → Each (λ a. value F.ops p (x a) ≡ 𝟎) ls
      → ((q : List K) (n : ℕ) → Monic F.ops q n → Each (λ a. value F.ops q (x a) ≡ 𝟎) ls → length ls ≤ n) → length ls < m
  beside ls p zero y h root others roots few = absurd (no_root F p y h root)
  beside ls p (suc m) y h root others roots few =
      let n = few (deflated F.ops y p) m (monic_deflated F y p m h)
      (all_both (λ a. x a ≡ y → ⊥) (λ a. value F.ops p (x a) ≡ 𝟎) _ (λ a other e. other_root F p y (x a) root other e) ls others roots) in
      omega arith

  -- a monic polynomial has at most as many different roots as its degree
  pub few : (ls : List A) → Distinct x ls → (p : List K) (m : ℕ) → Monic F.ops p m → Each (λ a. value F.ops p (x a) ≡ 𝟎) ls → length ls ≤ m
  few [] d p m h roots = omega arith
  few (b ∷ ls) d p m h roots = beside ls p m (x b) h roots.0 d.0 roots.1 (few ls d.1)

  pub few_beside : (ls : List A) → Distinct x ls → (p : List K) (m : ℕ) (y : K) → Monic F.ops p m → value F.ops p y ≡ 𝟎 → Each (λ a. x a ≡ y → ⊥) ls
      → Each (λ a. value F.ops p (x a) ≡ 𝟎) ls → length ls < m
  few_beside ls d p m y h root others roots = beside ls p m y h root others roots (few ls d)
