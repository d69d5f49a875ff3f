use mathlib.Core.Path.{refl, ap, ◌∙◌}
use lib.Dec.{lit≤}
use Rattle.field.specs.Field.{power}
use Rattle.polynomial.specs.Coefficients.{coeff}
use Rattle.power_form.specs.Arithmetic.{times_alpha, alpha_byte, scaled, product, exponent, exponent_from}
use Rattle.dual_form.specs.Dual.{squares, trace, beta, dual_bits, to_dual, dual_exponents, basis_sum, of_dual}
use Rattle.exponent_form.specs.declared.element.Logarithm.TheVariants.{Of}
use Rattle.exponent_form.specs.ExponentLaws.{exponent_equal}
use Rattle.generator.specs.Generator.{listed}
use Rattle.worked.proofs.Checks.{check_at}
use Rattle.worked.proofs.worked_sums_stand.Goals as goal

pub returns : goal.returns
unfolding power coeff listed times_alpha alpha_byte scaled product exponent exponent_from squares trace beta dual_bits to_dual dual_exponents basis_sum of_dual
returns c = record {
  power_8 = refl;
  power_125 = refl;
  power_162 = refl;
  dual_80 = refl;
  dual_7b = refl;
  dual_ff = refl;
  dual_00 = refl;
  product_45 = ap Of (exponent_equal refl);
  sum_88 = ap Of (exponent_equal refl);
  checks_7b_31 = check_at 0x7B 31 249 (lit≤ tt) refl ∙ refl;
  checks_7b_16 = check_at 0x7B 16 24 (lit≤ tt) refl ∙ refl;
  checks_7b_0 = check_at 0x7B 0 0 (lit≤ tt) refl ∙ refl;
  checks_ff_31 = check_at 0xFF 31 249 (lit≤ tt) refl ∙ refl;
  checks_ff_0 = check_at 0xFF 0 0 (lit≤ tt) refl ∙ refl;
}
