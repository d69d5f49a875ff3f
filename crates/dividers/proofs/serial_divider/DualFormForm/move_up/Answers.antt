use Rattle.std.proofs.Common.{ap, ◌∙◌}
use Rattle.dual_form.specs.DualForm.{symbol}
use Rattle.dividers.specs.DualLane.{dual_sums, dual_zero, dual_product}
use Rattle.dividers.specs.Stepping.{moves_up}
use Rattle.dividers.proofs.serial_divider.DualFormForm.move_up.Goals as goal

pub returns : goal.returns
returns c =
    moves_up symbol dual_sums dual_zero c.args.registers.now c.products.result c.shift_in.new.registers (symbol c.args.f)
    c.told-registers c.shift_in.array_long c.shift_in.ensures (λ k h. ap symbol (c.products.ensures k h) ∙ dual_product c.args.f k h)
