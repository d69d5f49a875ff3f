use Rattle.std.proofs.Common.{refl}
use Rattle.table.specs.Computed.{tabulates}
use Rattle.power_form.specs.Arithmetic.{times_alpha, alpha_byte, scaled, product}
use Rattle.dual_form.specs.Dual.{squares, trace, dual_exponents}
use Rattle.dividers.specs.Bits.{basis, mask_of, masks_right}
use Rattle.dividers.specs.Coefficients.{coefficient_byte}
use Rattle.dividers.proofs.products.products.Goals as goal

pub products_in-requires : goal.products_in-requires
unfolding times_alpha alpha_byte scaled product squares trace dual_exponents basis mask_of coefficient_byte tabulates masks_right
products_in-requires c = record { rule = refl }
