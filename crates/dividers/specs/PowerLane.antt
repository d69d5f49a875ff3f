-- Registers in power form: zeros, one read or set, and a symbol taken by adding the row of the feedback.
use Rattle.std.specs.Prelude.{◌≡◌, ℕ, ◌%◌, ◌<◌, List, length, bit_xor, refl}
use Rattle.std.proofs.Common.{sym, ap, ap₂, ◌∙◌, arith}
use Rattle.std.proofs.lemmas.Nat.{xor_mod}
use Rattle.std.proofs.lemmas.List.{length-map}
use Rattle.polynomial.specs.Coefficients.{coeff}
use Rattle.power_form.specs.Arithmetic.{product}
use Rattle.power_form.specs.PowerForm.{element, power_ops}
use Rattle.power_form.specs.PowerLaws.{power_equal, element_of, stays}
use Rattle.dual_form.specs.DualForm.{symbol, power_of_dual, dual_of_power, dual_ops}
use Rattle.dual_form.specs.DualLaws.{back, forth}
use Rattle.code.specs.Code.{telemetry}
use Rattle.generator.specs.Generator.{generator}
use Rattle.dividers.specs.Coefficients.{coefficient_byte}
use Rattle.dividers.specs.Forms.{in_power_form, power_byte, power_lane}
use Rattle.dividers.specs.CoefficientsLemmas.{coefficient_is, coefficient_below}

-- The byte of a sum is the sum of the bytes.
pub power_sums : (x y : ℕ) → in_power_form (bit_xor x y) ≡ dual_ops.sum (in_power_form x) (in_power_form y)
power_sums x y =
    let same : bit_xor x y % 256 ≡ bit_xor (x % 256) (y % 256) = xor_mod x y 8 in
    let small : bit_xor x y % 256 < 256 = omega arith in
    let one : element (bit_xor x y) ≡ element (bit_xor (x % 256) (y % 256)) = power_equal (same ∙ sym (stays _ (rw same at small))) in
    ap dual_of_power one
    ∙ sym (ap dual_of_power (ap₂ power_ops.sum (back (element x)) (back (element y))))

-- A symbol by its byte in power form.
pub power_symbol : (byte : ℕ) → in_power_form (power_byte byte) ≡ symbol byte
power_symbol byte = ap dual_of_power (sym (element_of (power_of_dual (symbol byte)) (power_byte byte) refl)) ∙ forth (symbol byte)

-- An entry of the row of f is a product with f.
pub power_product : (f k : ℕ) → f < 256 → k < 32 → in_power_form (product f (coefficient_byte k)) ≡ dual_ops.product (in_power_form f) (coeff dual_ops (generator dual_ops telemetry) k)
power_product f k hf hk =
    let g = coefficient_byte k in
    ap (λ p. dual_of_power (element p)) (ap₂ product (sym (stays f hf)) (sym (stays g (coefficient_below k))))
    ∙ sym (ap dual_of_power (ap₂ power_ops.product (back (element f)) (back (element g))))
    ∙ ap (dual_ops.product (in_power_form f)) (sym (coefficient_is k (omega arith)))

-- The byte of zero is 0.
pub power_zero : in_power_form 0 ≡ dual_ops.nought
power_zero = refl

pub power_wide : (registers : List ℕ) → length (power_lane registers) ≡ length registers
power_wide registers = length-map registers in_power_form
