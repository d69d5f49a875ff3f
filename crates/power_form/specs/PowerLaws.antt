-- The power form keeps the laws of a field.
use Rattle.std.specs.Prelude.{◌≡◌, ℕ, zero, suc, ◌-◌, ◌%◌, ◌<◌, ◌≢◌, Some, ◌==◌, bit_xor, refl}
use Rattle.std.proofs.Common.{sym, ap, ap₂, ◌∙◌, arith, ne_eqb}
use mathlib.Core.HLevel.{is_prop→PathP}
use Rattle.std.proofs.Math.Bridge.{le_prop}
use Rattle.std.specs.Int.Bits.{xor_self, xor_assoc}
use Rattle.std.proofs.lemmas.Nat.{xor_comm, xor_lt}
use Rattle.std.proofs.lemmas.Bool.Decides.{Decides-eqb, Decides-like}
use Rattle.field.specs.Field.{Laws, power}
use Rattle.power_form.specs.Arithmetic.{alpha_byte, product, exponent, inverse}
use Rattle.power_form.specs.PowerForm.{element, power_ops, reciprocal_if}
use Rattle.power_form.specs.declared.element.Power.{Power}
use Rattle.power_form.specs.Bounds.{power_below, product_below, inverse_below}
use Rattle.power_form.specs.ByteLaws.{product_comm, product_assoc, product_unit, product_alpha, product_inverse, exponent_of_power, power_mod, period}
use Rattle.power_form.specs.Products.{right_keeps}

-- Two elements with the same byte are the same.
pub power_equal : {x y : Power} → x.bits ≡ y.bits → x ≡ y
power_equal {x} {y} e = λ i. record { bits = e i; byte = is_prop→PathP (λ k. e k < 256) (λ k. le_prop) x.byte y.byte i }

-- The byte of the element with the byte n.
pub stays : (n : ℕ) → n < 256 → n % 256 ≡ n
stays n h = omega arith

-- An element is the one with its byte.
pub element_of : (x : Power) (n : ℕ) → x.bits ≡ n → x ≡ element n
element_of x n e = let same : x.bits ≡ n % 256 = omega (arith, x.byte) in power_equal same

sum_bits : (x y : Power) → (power_ops.sum x y).bits ≡ bit_xor x.bits y.bits
sum_bits x y = stays (bit_xor x.bits y.bits) (xor_lt 8 x.bits y.bits x.byte y.byte)

pub product_bits : (x y : Power) → (power_ops.product x y).bits ≡ product x.bits y.bits
product_bits x y = stays (product x.bits y.bits) (product_below x.bits y.bits y.byte)

-- Two elements whose bytes were made alike.
alike : (m n : ℕ) → m ≡ n → element m ≡ element n
alike m n e = ap element e

-- The bytes of the powers of α.
pub power_bits : (n : ℕ) → (power power_ops power_ops.alpha n).bits ≡ alpha_byte n
unfolding alpha_byte power
power_bits zero = refl
power_bits (suc n) =
    product_bits power_ops.alpha (power power_ops power_ops.alpha n)
    ∙ ap (product 2) (power_bits n)
    ∙ product_alpha (alpha_byte n) (power_below n)

-- The power of α by its exponent below 255.
pub power_element : (n : ℕ) → element (alpha_byte (n % 255)) ≡ power power_ops power_ops.alpha n
power_element n = ap element (sym (power_mod n)) ∙ sym (element_of _ _ (power_bits n))

-- The reciprocal of an element other than zero: the exponent is taken from 255.
pub inverse_power : (a : ℕ) → power power_ops power_ops.alpha (255 - exponent a) ≡ element (inverse a)
unfolding inverse
inverse_power a = sym (power_element (255 - exponent a))

not_zero : (x : Power) → (x ≢ power_ops.nought) → 0 < x.bits
not_zero x ne = let n : x.bits ≢ 0 = λ e. ne (power_equal e) in omega arith

-- The answer of a reciprocal, where the byte is not 0.
pub reciprocal_some : (a : ℕ) → 0 < a → Some (element (inverse a)) ≡ reciprocal_if (a == 0) a
reciprocal_some a positive = sym (ap (λ b. reciprocal_if b a) (ne_eqb a 0 (λ z. omega arith)))

reciprocal_law : (x : Power) → (x ≢ power_ops.nought) → (y : Power) × (power_ops.reciprocal x ≡ Some y) × (power_ops.product x y ≡ power_ops.unit)
reciprocal_law x ne =
    let a = x.bits in
    let positive = not_zero x ne in (
      element (inverse a),
      sym (reciprocal_some a positive),
      alike (product a (element (inverse a)).bits) 1 (ap (product a) (stays (inverse a) (inverse_below a)) ∙ product_inverse a positive x.byte),
    )

pub power_laws : Laws power_ops
power_laws = record {
  sum_assoc = λ x y z. ap element (ap (λ t. bit_xor t z.bits) (sum_bits x y) ∙ xor_assoc x.bits y.bits z.bits ∙ sym (ap (bit_xor x.bits) (sum_bits y z)));
  sum_comm = λ x y. ap element (xor_comm x.bits y.bits);
  sum_nought = λ x. power_equal (stays x.bits x.byte);
  sum_self = λ x. ap element (xor_self x.bits);
  product_assoc = λ x y z.
      ap element (ap (λ t. product t z.bits) (product_bits x y) ∙ product_assoc x.bits y.bits z.bits x.byte y.byte z.byte ∙ sym (ap (product x.bits) (product_bits y z)));
  product_comm = λ x y. ap element (product_comm x.bits y.bits x.byte y.byte);
  product_unit = λ x. power_equal (ap (λ n. n % 256) (product_unit x.bits x.byte) ∙ stays x.bits x.byte);
  distributes = λ x y z.
      ap element (ap (product x.bits) (sum_bits y z) ∙ right_keeps x.bits y.bits z.bits ∙ sym (ap₂ bit_xor (product_bits x y) (product_bits x z)));
  differ = λ e. let z : ◌≡◌ {A = ℕ} 0 1 = ap (λ (p : Power). p.bits) e in omega arith;
  no_reciprocal = refl;
  has_reciprocal = reciprocal_law;
  sameness = λ x y. Decides-like (x.bits == y.bits) power_equal (ap (λ (p : Power). p.bits)) (Decides-eqb x.bits y.bits);
  powers_differ = λ i j hi hj e.
      sym (exponent_of_power i hi) ∙ ap exponent (sym (power_bits i) ∙ ap (λ (p : Power). p.bits) e ∙ power_bits j) ∙ exponent_of_power j hj;
  period = power_equal (power_bits 255 ∙ period);
}
