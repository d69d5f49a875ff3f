-- How a field element of each kind is written.
use Rattle.std.specs.Prelude.{ℕ, List, [], ◌∷◌, decimal}
use Rattle.power_form.specs.declared.element.Power.{Power}
use Rattle.dual_form.specs.declared.element.Dual.{Dual}
use Rattle.exponent_form.specs.declared.element.Logarithm.{Logarithm}
use Rattle.exponent_form.specs.declared.element.Logarithm.TheVariants.{Star, Of}
use Rattle.tokens.specs.Bytes.{two_digits}

-- the two hex digits of its bits
abbrev pub power_text : Power → List ℕ
power_text x = two_digits x.bits

-- the two hex digits of its byte
abbrev pub dual_text : Dual → List ℕ
dual_text x = two_digits x.byte

-- `*` for zero, otherwise the exponent in decimal
abbrev pub logarithm_text : Logarithm → List ℕ
logarithm_text Star = 42 ∷ []
logarithm_text (Of e) = decimal e.number
