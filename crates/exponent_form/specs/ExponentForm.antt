-- The exponent form, and its operations: those of the power form, carried over.
use Rattle.std.specs.Prelude.{ℕ, ◌%◌, ◌<◌, Bool, true, false, cond, Some, None, Option, ◌==◌, nat_lt}
use Rattle.std.proofs.Common.{arith}
use Rattle.field.specs.Field.{Ops, carried, alpha_power}
use Rattle.power_form.specs.Arithmetic.{exponent}
use Rattle.power_form.specs.PowerForm.{power_ops}
use Rattle.power_form.specs.declared.element.Power.{Power}
use Rattle.exponent_form.specs.declared.element.Exponent.{Exponent}
use Rattle.exponent_form.specs.declared.element.Logarithm.{Logarithm}
use Rattle.exponent_form.specs.declared.element.Logarithm.TheVariants.{Star, Of}

pub number_below : (n : ℕ) → n % 255 < 255
number_below n = omega arith

-- The exponent with the number n, counted in whole turns.
abbrev pub numbered : ℕ → Exponent
numbered n = record { number = n % 255; below = number_below n }

-- The number, if it is that of an exponent.
abbrev pub in_range : ℕ → Option ℕ
in_range n = cond (nat_lt n 255) (Some n) None

-- The element that a logarithm stands for: zero for the star, α^n for n.
abbrev pub power_of_logarithm : Logarithm → Power
power_of_logarithm Star = power_ops.nought
power_of_logarithm (Of e) = alpha_power power_ops e.number

-- The logarithm of an element's byte, told whether the byte is zero.
abbrev pub logarithm_if : Bool → ℕ → Logarithm
logarithm_if true a = Star
logarithm_if false a = Of (numbered (exponent a))

abbrev pub logarithm_of_power : Power → Logarithm
logarithm_of_power p = logarithm_if (p.bits == 0) p.bits

abbrev pub logarithm_ops : Ops Logarithm
logarithm_ops = carried power_ops logarithm_of_power power_of_logarithm
