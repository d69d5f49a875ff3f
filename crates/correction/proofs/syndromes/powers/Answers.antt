use Rattle.std.proofs.Common.{arith}
use Rattle.field.specs.Field.{power}
use Rattle.polynomial.proofs.Lawful.{lawful}
use Rattle.correction.proofs.Rows.{row_next, multiple_none, multiple_next}
use Rattle.correction.proofs.syndromes.powers.Goals as goal

pub loop-entry-init : goal.loop-entry-init
loop-entry-init g c =
    let F = lawful g.met.F.Field.laws in
    (λ j h. absurd (omega arith), multiple_none F c.args.first c.args.base)

pub loop-entry-preserved : goal.loop-entry-preserved
loop-entry-preserved g c =
    let F = lawful g.met.F.Field.laws in
    let before = c.loop-entry in (
      row_next F (λ j. F.ops.product c.args.first (power F.ops c.args.base j)) before.entry-items before.entry-index _ (omega arith) before.invariant.1 before.invariant.0,
      multiple_next F c.args.first c.args.base before.x c.times-x.result before.entry-index before.invariant.1 c.times-x.ensures,
    )
