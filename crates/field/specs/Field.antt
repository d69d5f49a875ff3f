-- What a kind of field element is: its operations, the laws that they keep, and the powers of an element.
use Rattle.std.specs.Prelude.{◌≡◌, ℕ, zero, suc, ◌<◌, Bool, Some, None, Decides, Option, ◌≢◌}

-- The operations. `order` is the number of different powers of alpha, 255 in the field of 256 elements.
pub record Ops (F : Type 0) : Type 0 where
  pub order : ℕ
  pub nought : F
  pub unit : F
  pub alpha : F
  pub sum : F → F → F
  pub product : F → F → F
  pub reciprocal : F → Option F
  pub same : F → F → Bool

-- The power of x with exponent n.
unfoldable pub power : {F : Type 0} → Ops F → F → ℕ → F
power o x zero = o.unit
power o x (suc n) = o.product x (power o x n)

-- α to the power n.
abbrev pub alpha_power : {F : Type 0} → Ops F → ℕ → F
alpha_power o n = power o o.alpha n

-- The laws that each kind keeps, and all that code for any kind may use.
pub record Laws {F : Type 0} (o : Ops F) : Type 0 where
  pub sum_assoc : (x y z : F) → o.sum (o.sum x y) z ≡ o.sum x (o.sum y z)
  pub sum_comm : (x y : F) → o.sum x y ≡ o.sum y x
  pub sum_nought : (x : F) → o.sum o.nought x ≡ x
  pub sum_self : (x : F) → o.sum x x ≡ o.nought
  pub product_assoc : (x y z : F) → o.product (o.product x y) z ≡ o.product x (o.product y z)
  pub product_comm : (x y : F) → o.product x y ≡ o.product y x
  pub product_unit : (x : F) → o.product o.unit x ≡ x
  pub distributes : (x y z : F) → o.product x (o.sum y z) ≡ o.sum (o.product x y) (o.product x z)
  pub differ : o.nought ≡ o.unit → ⊥
  pub no_reciprocal : o.reciprocal o.nought ≡ None
  pub has_reciprocal : (x : F) → (x ≢ o.nought) → (y : F) × (o.reciprocal x ≡ Some y) × (o.product x y ≡ o.unit)
  pub sameness : (x y : F) → Decides (o.same x y) (x ≡ y)
  pub powers_differ : (i j : ℕ) → i < o.order → j < o.order → alpha_power o i ≡ alpha_power o j → i ≡ j
  pub period : alpha_power o o.order ≡ o.unit

-- What stands in an option, changed by f.
abbrev pub mapped : {A B : Type 0} → (A → B) → Option A → Option B
mapped f None = None
mapped f (Some x) = Some (f x)

-- The operations of one kind carried over to another, along two maps between their elements.
abbrev pub carried : {A B : Type 0} → Ops A → (A → B) → (B → A) → Ops B
carried o to from = record {
  order = o.order;
  nought = to o.nought;
  unit = to o.unit;
  alpha = to o.alpha;
  sum = λ x y. to (o.sum (from x) (from y));
  product = λ x y. to (o.product (from x) (from y));
  reciprocal = λ x. mapped to (o.reciprocal (from x));
  same = λ x y. o.same (from x) (from y);
}
