-- The operations of the power form.
use Rattle.std.specs.Prelude.{ℕ, ◌%◌, ◌<◌, Bool, true, false, Some, None, Option, ◌==◌, bit_xor}
use Rattle.std.proofs.Common.{arith}
use Rattle.field.specs.Field.{Ops}
use Rattle.power_form.specs.Arithmetic.{product, exponent, inverse}
use Rattle.power_form.specs.declared.element.Power.{Power}

pub byte_below : (n : ℕ) → n % 256 < 256
byte_below n = omega arith

-- The element with the byte n.
abbrev pub element : ℕ → Power
element n = record { bits = n % 256; byte = byte_below n }

-- The exponent of an element, told whether it is zero: none of zero.
abbrev pub exponent_if : Bool → ℕ → Option ℕ
exponent_if true a = None
exponent_if false a = Some (exponent a)

-- The reciprocal of an element, told whether it is zero: none of zero.
abbrev pub reciprocal_if : Bool → ℕ → Option Power
reciprocal_if true a = None
reciprocal_if false a = Some (element (inverse a))

abbrev pub power_ops : Ops Power
power_ops = record {
  order = 255;
  nought = element 0;
  unit = element 1;
  alpha = element 2;
  sum = λ x y. element (bit_xor x.bits y.bits);
  product = λ x y. element (product x.bits y.bits);
  reciprocal = λ x. reciprocal_if (x.bits == 0) x.bits;
  same = λ x y. (x.bits == y.bits);
}
