use Rattle.std.proofs.Common.{refl}
use Rattle.table.specs.Computed.{tabulates}
use Rattle.power_form.specs.Arithmetic.{times_alpha, exponent, exponent_from}
use Rattle.power_form.proofs.tables.exponent_at.Goals as goal

pub returns : goal.returns
unfolding times_alpha exponent exponent_from tabulates
returns c = c.entry.ensures.listed exponent refl
