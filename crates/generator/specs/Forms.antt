-- The generator of the (255,223) code in power form, dual form and exponent form.
use Rattle.std.specs.Prelude.{◌≡◌, ℕ, map, reverse, Some, None, Option}
use Rattle.field.specs.Field.{Ops}
use Rattle.polynomial.specs.Coefficients.{Monic}
use Rattle.power_form.specs.PowerForm.{power_ops}
use Rattle.dual_form.specs.DualForm.{dual_ops}
use Rattle.exponent_form.specs.ExponentForm.{numbered, logarithm_ops}
use Rattle.exponent_form.specs.declared.element.Logarithm.{Logarithm}
use Rattle.exponent_form.specs.declared.element.Logarithm.TheVariants.{Star, Of}
use Rattle.code.specs.Code.{telemetry}
use Rattle.generator.specs.Generator.{generator, exponents, listed}

-- α^n in exponent form.
abbrev pub logarithm : ℕ → Logarithm
logarithm n = Of (numbered n)

-- The exponent of an element; none of zero.
abbrev pub number : Logarithm → Option ℕ
number Star = None
number (Of e) = Some e.number

-- The generator in a form: its coefficients are the listed powers of α, they read the same from both ends, and the highest is one.
pub record Lists {F : Type 0} (o : Ops F) : Type 0 where
  pub coefficients : generator o telemetry ≡ listed o
  pub palindrome : reverse (generator o telemetry) ≡ generator o telemetry
  pub monic : Monic o (generator o telemetry) 32

-- The generator is listed in all three forms, and in exponent form by the exponents themselves.
pub record ListedForms : Type 0 where
  pub in_power_form : Lists power_ops
  pub in_dual_form : Lists dual_ops
  pub in_exponent_form : Lists logarithm_ops
  pub as_exponents : generator logarithm_ops telemetry ≡ map logarithm exponents
