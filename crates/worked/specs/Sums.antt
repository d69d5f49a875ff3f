-- Sums worked out on paper.
use Rattle.std.specs.Prelude.{◌≡◌, [], ◌∷◌, ◌++◌, ℕ, replicate}
use Rattle.field.specs.Field.{alpha_power}
use Rattle.power_form.specs.PowerForm.{power_ops}
use Rattle.polynomial.specs.Coefficients.{coeff}
use Rattle.code.specs.Code.{telemetry}
use Rattle.divider.specs.Registers.{registers}
use Rattle.dual_form.specs.Dual.{of_dual}
use Rattle.dual_form.specs.DualForm.{symbol, dual_ops}
use Rattle.exponent_form.specs.ExponentForm.{numbered, logarithm_ops}
use Rattle.exponent_form.specs.declared.element.Logarithm.{Logarithm}
use Rattle.exponent_form.specs.declared.element.Logarithm.TheVariants.{Of}

-- α^n in exponent form.
abbrev pub exponent : ℕ → Logarithm
exponent n = Of (numbered n)

-- The byte of register i of a lane that took 222 bytes 00 and then this one.
abbrev pub after_222 : ℕ → ℕ → ℕ
after_222 last i = (coeff dual_ops (registers dual_ops telemetry (replicate 222 (symbol 0x00) ++ symbol last ∷ [])) i).byte

pub record WorkedSums : Type 0 where
  -- powers of α in power form
  pub power_8 : (alpha_power power_ops 8).bits ≡ 0x87
  pub power_125 : (alpha_power power_ops 125).bits ≡ 0xC5
  pub power_162 : (alpha_power power_ops 162).bits ≡ 0xBD
  -- the bytes in power form of dual bytes
  pub dual_80 : of_dual 0x80 ≡ 0xC5
  pub dual_7b : of_dual 0x7B ≡ 0x01
  pub dual_ff : of_dual 0xFF ≡ 0xBD
  pub dual_00 : of_dual 0x00 ≡ 0x00
  -- in exponent form 200 times 100 is 45, and 6 plus 1 is 88
  pub product_45 : logarithm_ops.product (exponent 200) (exponent 100) ≡ exponent 45
  pub sum_88 : logarithm_ops.sum (exponent 6) (exponent 1) ≡ exponent 88
  -- after 222 bytes 00 the byte 7B leaves the checks C_31 = 47, C_16 = FE and C_0 = 7B, and the byte FF leaves C_31 = 22 and C_0 = FF
  pub checks_7b_31 : after_222 0x7B 31 ≡ 0x47
  pub checks_7b_16 : after_222 0x7B 16 ≡ 0xFE
  pub checks_7b_0 : after_222 0x7B 0 ≡ 0x7B
  pub checks_ff_31 : after_222 0xFF 31 ≡ 0x22
  pub checks_ff_0 : after_222 0xFF 0 ≡ 0xFF
