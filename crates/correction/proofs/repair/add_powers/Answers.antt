use Rattle.std.proofs.Common.{sym, ◌∙◌, ap₂, arith}
use Rattle.field.specs.Field.{power}
use Rattle.polynomial.proofs.Lawful.{lawful}
use Rattle.correction.proofs.Rows.{changed_none, changed_next, multiple_none, multiple_next}
use Rattle.correction.proofs.repair.add_powers.Goals as goal

pub loop-syndrome-init : goal.loop-syndrome-init
loop-syndrome-init g c =
    let F = lawful g.met.F.Field.laws in
    (changed_none F (λ k a. F.ops.sum a (F.ops.product c.args.y (power F.ops c.args.x k))) c.args.syndromes.now, multiple_none F c.args.y c.args.x)

pub loop-syndrome-preserved : goal.loop-syndrome-preserved
loop-syndrome-preserved g c =
    let F = lawful g.met.F.Field.laws in
    let before = c.loop-syndrome in (
      changed_next F (λ k a. F.ops.sum a (F.ops.product c.args.y (power F.ops c.args.x k))) c.args.syndromes.now before.syndromes before.syndrome-index
          c.syndrome-item.result c.plus.result (omega arith) c.syndrome-item.is
          (c.plus.ensures ∙ ap₂ F.ops.sum (sym c.syndrome-item.is) before.invariant.1) before.invariant.0,
      multiple_next F c.args.y c.args.x before.term c.times-term.result before.syndrome-index before.invariant.1 c.times-term.ensures,
    )

pub returns : goal.returns
returns g c k h = c.loop-syndrome.invariant.0.0 k (omega arith)
