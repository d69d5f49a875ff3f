use Rattle.std.proofs.Common.{arith}
use Rattle.field.proofs.Horner.{value_from_top}
use Rattle.field.proofs.evaluate.Goals as goal

pub loop-coefficient-init : goal.loop-coefficient-init
loop-coefficient-init g c =
    let e = value_from_top (record { ops = g.F.Field.ops; laws = g.met.F.Field.laws }) c.args.coefficients.now c.args.x in
    grind (arith, e)
