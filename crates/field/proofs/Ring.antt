-- Equations that hold in every field of characteristic 2: `simp ring` proves them.
use Rattle.std.proofs.Common.{◌≡◌, sym, ap, ◌∙◌, ap₂}
use Rattle.field.specs.Field.{Ops, Laws}

-- Operations together with their laws, so that a lemma has one argument, which a goal determines.
pub record Lawful (K : Type 0) : Type 0 where
  pub ops : Ops K
  pub laws : Laws ops

module _ {K : Type 0} (F : Lawful K) where
  open F.ops use {nought as 𝟎, unit as 𝟏, sum as ◌⊕◌, product as ◌⊗◌}

  infixl 60 ◌⊕◌
  infixl 70 ◌⊗◌
  pub add_assoc : (x y z : K) → (x ⊕ y) ⊕ z ≡ x ⊕ (y ⊕ z)
  add_assoc = F.laws.sum_assoc

  pub add_comm : (x y : K) → x ⊕ y ≡ y ⊕ x
  add_comm = F.laws.sum_comm

  pub zero_add : (x : K) → 𝟎 ⊕ x ≡ x
  zero_add = F.laws.sum_nought

  pub add_self : (x : K) → x ⊕ x ≡ 𝟎
  add_self = F.laws.sum_self

  pub mul_assoc : (x y z : K) → (x ⊗ y) ⊗ z ≡ x ⊗ (y ⊗ z)
  mul_assoc = F.laws.product_assoc

  pub mul_comm : (x y : K) → x ⊗ y ≡ y ⊗ x
  mul_comm = F.laws.product_comm

  pub one_mul : (x : K) → 𝟏 ⊗ x ≡ x
  one_mul = F.laws.product_unit

  pub mul_add : (x y z : K) → x ⊗ (y ⊕ z) ≡ x ⊗ y ⊕ x ⊗ z
  mul_add = F.laws.distributes

  pub add_zero : (x : K) → x ⊕ 𝟎 ≡ x
  add_zero x = add_comm x 𝟎 ∙ zero_add x

  pub add_left_comm : (x y z : K) → x ⊕ (y ⊕ z) ≡ y ⊕ (x ⊕ z)
  add_left_comm x y z = sym (add_assoc x y z) ∙ ap (λ t. t ⊕ z) (add_comm x y) ∙ add_assoc y x z

  pub add_self_left : (x y : K) → x ⊕ (x ⊕ y) ≡ y
  add_self_left x y = sym (add_assoc x x y) ∙ ap (λ t. t ⊕ y) (add_self x) ∙ zero_add y

  pub mul_one : (x : K) → x ⊗ 𝟏 ≡ x
  mul_one x = mul_comm x 𝟏 ∙ one_mul x

  pub mul_left_comm : (x y z : K) → x ⊗ (y ⊗ z) ≡ y ⊗ (x ⊗ z)
  mul_left_comm x y z = sym (mul_assoc x y z) ∙ ap (λ t. t ⊗ z) (mul_comm x y) ∙ mul_assoc y x z

  pub add_mul : (x y z : K) → (x ⊕ y) ⊗ z ≡ x ⊗ z ⊕ y ⊗ z
  add_mul x y z = mul_comm (x ⊕ y) z ∙ mul_add z x y ∙ ap₂ ◌⊕◌ (mul_comm z x) (mul_comm z y)

  pub mul_zero : (x : K) → x ⊗ 𝟎 ≡ 𝟎
  mul_zero x = ap (λ t. x ⊗ t) (sym (add_self 𝟎)) ∙ mul_add x 𝟎 𝟎 ∙ add_self (x ⊗ 𝟎)

  pub zero_mul : (x : K) → 𝟎 ⊗ x ≡ 𝟎
  zero_mul x = mul_comm 𝟎 x ∙ mul_zero x

pub ruleset ring = (add_zero, zero_add, add_self, add_self_left, mul_zero, zero_mul, mul_one, one_mul, mul_add, add_mul, add_assoc, mul_assoc, add_comm, mul_comm, add_left_comm, mul_left_comm)

module _ {K : Type 0} (F : Lawful K) where
  open F.ops use {nought as 𝟎, unit as 𝟏, sum as ◌⊕◌, product as ◌⊗◌}

  infixl 60 ◌⊕◌
  infixl 70 ◌⊗◌
  -- x + y = 0 says x = y
  pub eq_of_sum : (x y : K) → x ⊕ y ≡ 𝟎 → x ≡ y
  eq_of_sum x y h = sym (add_zero F x) ∙ ap (λ t. x ⊕ t) (sym h) ∙ simp ring

  -- the left factor of a product that vanishes, where the right one does not
  pub no_divisor : (x y : K) → x ⊗ y ≡ 𝟎 → (y ≡ 𝟎 → ⊥) → x ≡ 𝟎
  no_divisor x y h n =
      let r = F.laws.has_reciprocal y n in
      sym (mul_one F x) ∙ ap (λ t. x ⊗ t) (sym r.2) ∙ sym (mul_assoc F x y r.0) ∙ ap (λ t. t ⊗ r.0) h ∙ zero_mul F r.0
