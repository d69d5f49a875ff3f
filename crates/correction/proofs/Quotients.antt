-- Division by x + r from the top down: the quotient's coefficients, its value at r, and itself applied to a sequence.
use Rattle.std.proofs.Common.{◌≡◌, ℕ, suc, ◌+◌, ◌-◌, ◌<◌, ◌≤◌, List, length, get_or, drop, sym, ap, ◌∙◌, ap₂, add-one, arith}
use Rattle.field.specs.Polynomial.{value}
use Rattle.field.proofs.Ring.{Lawful, ring, mul_one}
use Rattle.polynomial.specs.Coefficients.{coeff}
use Rattle.polynomial.proofs.Entries.{coeff_read}
use Rattle.locator.specs.Applied.{applied, deflated}
use Rattle.locator.proofs.Loops.{value_drop, value_drop_none, applied_drop, applied_drop_none}
use Rattle.locator.proofs.Quotients.{coeff_deflated}
use Rattle.correction.specs.Correcting.{DividedBy}

module _ {K : Type 0} (F : Lawful K) (poly : List K) (r : K) (s : List K) where
  open F.ops use {nought as 𝟎, unit as 𝟏, sum as ◌⊕◌, product as ◌⊗◌}

  infixl 60 ◌⊕◌
  infixl 70 ◌⊗◌
  -- the coefficient of x^i, and the rest from there on
  pub record DownTo (q v a : K) (i : ℕ) : Type 0 where
    pub coefficient : q ≡ value F.ops (drop (i + 1) poly) r
    pub value_is : v ≡ value F.ops (drop i (deflated F.ops r poly)) r
    pub applied_is : a ≡ applied F.ops (drop i (deflated F.ops r poly)) (coeff F.ops s) i

  pub down_start : (degree : ℕ) (q v a : K) → q ≡ 𝟎 → v ≡ 𝟎 → a ≡ 𝟎 → ((i : ℕ) → degree < i → coeff F.ops poly i ≡ 𝟎) → DownTo q v a degree
  down_start degree q v a eq ev ea above = record {
    coefficient = eq ∙ sym (value_drop_none F poly (degree + 1) (λ i h. above i (omega arith)) r);
    value_is = ev ∙ sym (value_drop_none F (deflated F.ops r poly) degree none r);
    applied_is = ea ∙ sym (applied_drop_none F (deflated F.ops r poly) degree none (coeff F.ops s) degree);
  }
    where
      none : (i : ℕ) → degree ≤ i → coeff F.ops (deflated F.ops r poly) i ≡ 𝟎
      none i h = coeff_deflated F r poly i ∙ value_drop_none F poly (suc i) (λ j l. above j (omega arith)) r

  module _ (i : ℕ) (q v a p m q' n v' b e a' : K) (some : 0 < i) (within : i < length poly) (room : i ≤ length s)
      (p_is : p ≡ get_or poly (i - 1 + 1) p) (m_is : m ≡ r ⊗ q) (q_is : q' ≡ p ⊕ m) (n_is : n ≡ r ⊗ v) (v_is : v' ≡ q' ⊕ n)
      (b_is : b ≡ get_or s (i - 1) b) (e_is : e ≡ q' ⊗ b) (a_is : a' ≡ e ⊕ a) (so_far : DownTo q v a i) where
    back : i - 1 + 1 ≡ i
    back = omega arith

    next : q' ≡ value F.ops (drop (i - 1 + 1) poly) r
    next =
        q_is
        ∙ ap₂ ◌⊕◌ (coeff_read F.ops poly (i - 1 + 1) p (omega arith) p_is) (m_is ∙ ap (λ t. r ⊗ t) (so_far.coefficient ∙ ap (λ k. value F.ops (drop (k + 1) poly) r) (sym back)))
        ∙ sym (value_drop F poly (i - 1 + 1) r)

    here : q' ≡ coeff F.ops (deflated F.ops r poly) (i - 1)
    here = next ∙ ap (λ k. value F.ops (drop k poly) r) (add-one (i - 1)) ∙ sym (coeff_deflated F r poly (i - 1))

    pub down_next : DownTo q' v' a' (i - 1)
    down_next = record {
      coefficient = next;
      value_is =
          v_is
          ∙ ap₂ ◌⊕◌ here (n_is ∙ ap (λ t. r ⊗ t) (so_far.value_is ∙ ap (λ k. value F.ops (drop k (deflated F.ops r poly)) r) (sym back)))
          ∙ sym (value_drop F (deflated F.ops r poly) (i - 1) r);
      applied_is =
          a_is
          ∙ ap₂ ◌⊕◌ (e_is ∙ ap₂ ◌⊗◌ here (coeff_read F.ops s (i - 1) b (omega arith) b_is))
          (so_far.applied_is ∙ ap (λ k. applied F.ops (drop k (deflated F.ops r poly)) (coeff F.ops s) k) (sym back))
          ∙ sym (applied_drop F (deflated F.ops r poly) (i - 1) (coeff F.ops s) (i - 1));
    }

  pub down_all : (q v a : K) (i : ℕ) → i ≡ 0 → DownTo q v a i → DividedBy F.ops poly r (coeff F.ops s) v a
  down_all q v a i e so_far = record {
    value_is = so_far.value_is ∙ ap (λ k. value F.ops (drop k (deflated F.ops r poly)) r) e;
    applied_is = so_far.applied_is ∙ ap (λ k. applied F.ops (drop k (deflated F.ops r poly)) (coeff F.ops s) k) e;
  }

module _ {K : Type 0} (F : Lawful K) where
  open F.ops use {nought as 𝟎, unit as 𝟏, sum as ◌⊕◌, product as ◌⊗◌}

  infixl 60 ◌⊕◌
  infixl 70 ◌⊗◌
  -- a over v·s, times s and v, is a
  pub quotient_of : (a v s y e m : K) → m ≡ v ⊗ s → m ⊗ y ≡ 𝟏 → e ≡ a ⊗ y → e ⊗ s ⊗ v ≡ a
  quotient_of a v s y e m m_is inverse e_is =
      ap (λ t. t ⊗ s ⊗ v) e_is ∙ gathered ∙ ap (λ t. a ⊗ t) (ap (λ t. t ⊗ y) (sym m_is) ∙ inverse) ∙ mul_one F a
    where
      gathered : a ⊗ y ⊗ s ⊗ v ≡ a ⊗ (v ⊗ s ⊗ y)
      gathered = simp ring
