use mathlib.Core.Path.{refl}
use Rattle.table.specs.Computed.{tabulates}
use Rattle.power_form.specs.Arithmetic.{times_alpha, alpha_byte, scaled, product}
use Rattle.dual_form.specs.Dual.{squares, trace, beta, dual_bits, to_dual}
use Rattle.dual_form.proofs.tables.dual_byte.Goals as goal

pub returns : goal.returns
unfolding times_alpha alpha_byte scaled product squares trace beta dual_bits to_dual tabulates
returns c = c.entry.ensures.listed to_dual refl
