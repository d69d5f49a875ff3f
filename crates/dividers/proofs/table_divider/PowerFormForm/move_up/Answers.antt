use Rattle.std.proofs.Common.{ap, ◌∙◌, arith}
use Rattle.dividers.specs.Forms.{in_power_form}
use Rattle.dividers.specs.PowerLane.{power_sums, power_zero, power_product}
use Rattle.dividers.specs.Stepping.{moves_up}
use Rattle.dividers.proofs.table_divider.PowerFormForm.move_up.Goals as goal

pub returns : goal.returns
returns c =
    moves_up in_power_form power_sums power_zero c.args.registers.now c.row.result.now c.shift_in.new.registers (in_power_form c.args.f)
    c.told-registers c.shift_in.array_long c.shift_in.ensures (λ k h. ap in_power_form (c.row.ensures k h) ∙ power_product c.args.f k (omega arith) h)
