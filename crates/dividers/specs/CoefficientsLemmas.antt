-- The coefficients of the generator in dual form are those of the coefficient bytes.
use Rattle.std.specs.Prelude.{◌≡◌, ℕ, ◌<◌, slice_index, slice_index_or}
use Rattle.std.proofs.Common.{ap, ◌∙◌}
use Rattle.std.proofs.lemmas.List.{get_or-map}
use Rattle.field.specs.Field.{alpha_power}
use Rattle.field.proofs.Carried.{carried_power}
use Rattle.polynomial.specs.Coefficients.{coeff}
use Rattle.power_form.specs.Arithmetic.{alpha_byte}
use Rattle.power_form.specs.PowerForm.{power_ops}
use Rattle.power_form.specs.Bounds.{power_below}
use Rattle.power_form.specs.PowerLaws.{element_of, power_bits}
use Rattle.dual_form.specs.DualForm.{power_of_dual, dual_of_power, dual_ops}
use Rattle.dual_form.specs.DualLaws.{back}
use Rattle.code.specs.Code.{telemetry}
use Rattle.generator.specs.Generator.{generator, exponents, listed}
use Rattle.generator.proofs.Computed.{listed_forms}
use Rattle.dividers.specs.Coefficients.{coefficient_byte}
use Rattle.dividers.specs.Forms.{in_power_form}

pub coefficient_below : (k : ℕ) → coefficient_byte k < 256
unfolding coefficient_byte
coefficient_below k = power_below (slice_index exponents k)

pub coefficient_is : (k : ℕ) → k < 33 → coeff dual_ops (generator dual_ops telemetry) k ≡ in_power_form (coefficient_byte k)
unfolding coeff listed coefficient_byte
coefficient_is k h =
    let n = slice_index_or exponents k 0 in
    ap (λ g. slice_index_or g k dual_ops.nought) listed_forms.in_dual_form.coefficients
    ∙ get_or-map (alpha_power dual_ops) exponents k 0 dual_ops.nought h
    ∙ carried_power power_ops dual_of_power power_of_dual back power_ops.alpha n
    ∙ ap dual_of_power (element_of (alpha_power power_ops n) (alpha_byte n) (power_bits n))
