-- The checks that one symbol behind zeros leaves: the symbol times the generator's coefficients.
use mathlib.Core.Path.{◌≡◌, refl, ap, ◌∙◌}
use mathlib.Core.List.{[], ◌∷◌, ◌++◌}
use Prim.Native.Nat.{ℕ, ◌≤◌}
use lib.ListN.{replicate}
use Rattle.field.specs.Field.{alpha_power}
use Rattle.field.proofs.Carried.{carried_power}
use Rattle.field.proofs.Ring.{Lawful}
use Rattle.polynomial.specs.Coefficients.{coeff}
use Rattle.power_form.specs.Arithmetic.{times_alpha, alpha_byte, scaled, product}
use Rattle.power_form.specs.PowerForm.{power_ops}
use Rattle.dual_form.specs.Dual.{squares, trace, beta, dual_bits, to_dual}
use Rattle.dual_form.specs.DualForm.{symbol, power_of_dual, dual_of_power, dual_ops}
use Rattle.dual_form.specs.declared.element.Dual.{Dual}
use Rattle.dual_form.specs.DualLaws.{dual_equal, dual_laws, back}
use Rattle.code.specs.Code.{telemetry}
use Rattle.generator.specs.Generator.{listed}
use Rattle.generator.proofs.Computed.{listed_forms}
use Rattle.divider.specs.Registers.{registers}
use Rattle.divider.proofs.Zeros.{last_symbol}
use Rattle.worked.specs.Sums.{after_222}

dual_field : Lawful Dual
dual_field = record { ops = dual_ops; laws = dual_laws }

zero_symbol : symbol 0x00 ≡ dual_ops.nought
unfolding times_alpha alpha_byte scaled product squares trace beta dual_bits to_dual
zero_symbol = dual_equal refl

-- Where the generator's coefficient of x^i is α^n, register i is the symbol times α^n.
pub check_at : (last i n : ℕ) → i ≤ 31 → coeff dual_ops (listed dual_ops) i ≡ alpha_power dual_ops n → after_222 last i ≡ (dual_ops.product (symbol last) (dual_of_power (alpha_power power_ops n))).byte
unfolding dual_field
check_at last i n within is =
    ap (λ (x : Dual). x.byte)
    (ap (λ z. coeff dual_ops (registers dual_ops telemetry (replicate 222 z ++ symbol last ∷ [])) i) zero_symbol
    ∙ last_symbol dual_field telemetry 222 (symbol last) 31 i refl within
    ∙ ap (λ g. dual_ops.product (symbol last) (coeff dual_ops g i)) listed_forms.in_dual_form.coefficients
    ∙ ap (dual_ops.product (symbol last)) (is ∙ carried_power power_ops dual_of_power power_of_dual back power_ops.alpha n))
