use Rattle.std.proofs.Common.{sym, ◌∙◌, arith}
use Rattle.polynomial.proofs.Lawful.{lawful}
use Rattle.polynomial.proofs.Clauses.{coeff_zero}
use Rattle.generator.proofs.Steps.{partly_none, partly_next, held_next}
use Rattle.generator.proofs.expansion.multiply.Goals as goal

pub loop-coefficient-init : goal.loop-coefficient-init
loop-coefficient-init g c = record {
  so_far = partly_none (lawful g.met.F.Field.laws) c.args.coefficients.now c.args.root;
  below = c.zero-below.ensures ∙ sym (coeff_zero g.F.Field.ops g.F.Field.ops.nought c.args.coefficients.now);
}

pub loop-coefficient-preserved : goal.loop-coefficient-preserved
loop-coefficient-preserved g c =
    let l = c.loop-coefficient in
    let F = lawful g.met.F.Field.laws in record {
      so_far = partly_next F c.args.coefficients.now l.coefficients c.args.root c.coefficient-item.result l.below c.times.result c.plus.result
          l.coefficient-index (omega arith) c.coefficient-item.is l.invariant.below c.times.ensures c.plus.ensures l.invariant.so_far;
      below = held_next F c.args.coefficients.now l.coefficients c.args.root c.coefficient-item.result l.below c.times.result c.plus.result
          l.coefficient-index (omega arith) c.coefficient-item.is l.invariant.below c.times.ensures c.plus.ensures l.invariant.so_far;
    }
