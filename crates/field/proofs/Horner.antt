-- Horner's rule, and that it gives the value of a polynomial.
use Rattle.std.proofs.Common.{◌≡◌, ℕ, ◌+◌, List, [], ◌∷◌, length, refl, sym, ap, ◌∙◌, add-one, arith}
use Rattle.std.specs.List.{push}
use Rattle.field.specs.Field.{Ops, power}
use Rattle.field.specs.Polynomial.{terms, value}
use Rattle.field.proofs.Ring.{Lawful, ring}

-- One power more.
pub power_next : {F : Type 0} (o : Ops F) (x : F) (n : ℕ) → o.product x (power o x n) ≡ power o x (n + 1)
unfolding power
power_next o x n = sym (ap (power o x) (add-one n))

-- From the top: the lowest coefficient, and x times what the others give.
unfoldable pub horner : {F : Type 0} → Ops F → List F → F → F
horner o [] x = o.nought
horner o (c ∷ cs) x = o.sum c (o.product x (horner o cs x))

-- The same above coefficients that gave s.
unfoldable pub horner_above : {F : Type 0} → Ops F → List F → F → F → F
horner_above o [] x s = s
horner_above o (c ∷ cs) x s = o.sum c (o.product x (horner_above o cs x s))

pub horner_none : {F : Type 0} (o : Ops F) (cs : List F) (x s : F) → length cs ≡ 0 → horner_above o cs x s ≡ s
unfolding horner_above
horner_none o [] x s none = refl
horner_none o (c ∷ cs) x s none = absurd (omega arith)

-- The last coefficient comes first.
pub horner_last : {F : Type 0} (o : Ops F) (cs : List F) (x c s : F) → horner_above o (push cs c) x s ≡ horner_above o cs x (o.sum c (o.product x s))
unfolding horner_above
horner_last o [] x c s = refl
horner_last o (b ∷ cs) x c s = ap (λ t. o.sum b (o.product x t)) (horner_last o cs x c s)

horner_from_top : {F : Type 0} (o : Ops F) (cs : List F) (x : F) → horner_above o cs x o.nought ≡ horner o cs x
unfolding horner horner_above
horner_from_top o [] x = refl
horner_from_top o (c ∷ cs) x = ap (λ t. o.sum c (o.product x t)) (horner_from_top o cs x)

module _ {K : Type 0} (F : Lawful K) where
  open F.ops use {unit as 𝟏, sum as ◌⊕◌, product as ◌⊗◌}

  infixl 60 ◌⊕◌
  infixl 70 ◌⊗◌
  moved_in : (c p x h : K) → c ⊗ p ⊕ (p ⊗ x) ⊗ h ≡ p ⊗ (c ⊕ x ⊗ h)
  moved_in c p x h = simp ring

  terms_horner : (cs : List K) (x p : K) → terms F.ops cs x p ≡ p ⊗ horner F.ops cs x
  unfolding terms horner
  terms_horner [] x p = simp ring
  terms_horner (c ∷ cs) x p = ap (λ t. c ⊗ p ⊕ t) (terms_horner cs x (p ⊗ x)) ∙ moved_in c p x (horner F.ops cs x)

  pub value_horner : (cs : List K) (x : K) → value F.ops cs x ≡ horner F.ops cs x
  unfolding value
  value_horner cs x = terms_horner cs x 𝟏 ∙ F.laws.product_unit (horner F.ops cs x)

  -- All coefficients, above nothing.
  pub value_from_top : (cs : List K) (x : K) → horner_above F.ops cs x F.ops.nought ≡ value F.ops cs x
  value_from_top cs x = horner_from_top F.ops cs x ∙ sym (value_horner cs x)
