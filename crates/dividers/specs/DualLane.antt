-- Registers in dual form: zeros, one read or set, and a symbol taken by adding the products of the feedback.
use Rattle.std.specs.Prelude.{◌≡◌, ℕ, ◌%◌, ◌<◌, List, length, bit_xor, refl}
use Rattle.std.proofs.Common.{sym, ap, ◌∙◌, arith}
use Rattle.std.proofs.lemmas.Nat.{xor_mod}
use Rattle.std.proofs.lemmas.List.{length-map}
use Rattle.polynomial.specs.Coefficients.{coeff}
use Rattle.power_form.specs.Arithmetic.{times_alpha, alpha_byte, scaled, product}
use Rattle.power_form.specs.PowerForm.{element, power_ops}
use Rattle.power_form.specs.Bounds.{product_below}
use Rattle.power_form.specs.PowerLaws.{stays}
use Rattle.dual_form.specs.Dual.{squares, trace, beta, dual_bits, to_dual}
use Rattle.dual_form.specs.DualForm.{symbol, power_of_dual, dual_of_power, dual_ops}
use Rattle.dual_form.specs.Bytes.{dual_sum}
use Rattle.dual_form.specs.DualLaws.{dual_equal, back}
use Rattle.code.specs.Code.{telemetry}
use Rattle.generator.specs.Generator.{generator}
use Rattle.dividers.specs.Coefficients.{coefficient_byte}
use Rattle.dividers.specs.Forms.{power_byte, dual_lane}
use Rattle.dividers.specs.CoefficientsLemmas.{coefficient_is, coefficient_below}

-- The byte of a sum is the sum of the bytes.
pub dual_sums : (x y : ℕ) → symbol (bit_xor x y) ≡ dual_ops.sum (symbol x) (symbol y)
dual_sums x y = dual_equal (xor_mod x y 8 ∙ dual_sum (x % 256) (y % 256) (omega arith) (omega arith))

-- The dual byte of a product with f.
pub dual_product : (f k : ℕ) → k < 32 → symbol (to_dual (product (power_byte f) (coefficient_byte k))) ≡ dual_ops.product (symbol f) (coeff dual_ops (generator dual_ops telemetry) k)
dual_product f k h =
    let g = coefficient_byte k in
    let small : product (power_byte f) g < 256 = product_below (power_byte f) g (coefficient_below k) in
    ap (λ p. symbol (to_dual p)) (sym (stays _ small))
    ∙ ap (λ n. dual_of_power (element (product (power_byte f) n))) (sym (stays g (coefficient_below k)))
    ∙ sym (ap (λ x. dual_of_power (power_ops.product (power_of_dual (symbol f)) x)) (back (element g)))
    ∙ ap (dual_ops.product (symbol f)) (sym (coefficient_is k (omega arith)))

-- The byte of zero is 0.
pub dual_zero : symbol 0 ≡ dual_ops.nought
unfolding times_alpha alpha_byte scaled product squares trace beta dual_bits to_dual
dual_zero = dual_equal refl

pub dual_wide : (registers : List ℕ) → length (dual_lane registers) ≡ length registers
dual_wide registers = length-map registers symbol
