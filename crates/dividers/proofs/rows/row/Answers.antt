use Rattle.std.proofs.Common.{refl}
use Rattle.table.specs.Computed.{tabulates}
use Rattle.power_form.specs.Arithmetic.{times_alpha, alpha_byte, scaled, product}
use Rattle.dividers.specs.Coefficients.{coefficient_byte}
use Rattle.dividers.specs.Rows.{rows_right}
use Rattle.dividers.proofs.rows.row.Goals as goal

pub row_in-requires : goal.row_in-requires
unfolding times_alpha alpha_byte scaled product coefficient_byte tabulates rows_right
row_in-requires c = record { rule = refl }
