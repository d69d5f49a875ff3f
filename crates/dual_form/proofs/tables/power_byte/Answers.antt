use mathlib.Core.Path.{refl}
use Rattle.table.specs.Computed.{tabulates}
use Rattle.power_form.specs.Arithmetic.{times_alpha, alpha_byte}
use Rattle.dual_form.specs.Dual.{dual_exponents, basis_sum, of_dual}
use Rattle.dual_form.proofs.tables.power_byte.Goals as goal

pub returns : goal.returns
unfolding times_alpha alpha_byte dual_exponents basis_sum of_dual tabulates
returns c = c.entry.ensures.listed of_dual refl
