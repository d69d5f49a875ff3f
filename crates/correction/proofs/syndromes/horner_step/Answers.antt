use Rattle.std.proofs.Common.{sym, ap, ◌∙◌, ap₂, arith}
use Rattle.polynomial.specs.Coefficients.{coeff}
use Rattle.polynomial.proofs.Lawful.{lawful}
use Rattle.polynomial.proofs.Entries.{coeff_read}
use Rattle.correction.proofs.Rows.{changed_none, changed_next}
use Rattle.correction.proofs.syndromes.horner_step.Goals as goal

pub loop-k-init : goal.loop-k-init
loop-k-init g c =
    let o = g.F.Field.ops in
    changed_none (lawful g.met.F.Field.laws) (λ k a. o.sum c.args.coefficient (o.product (coeff o c.args.points.now k) a)) c.args.values.now

pub loop-k-preserved : goal.loop-k-preserved
loop-k-preserved g c =
    let o = g.F.Field.ops in
    let here = c.loop-k in
    changed_next (lawful g.met.F.Field.laws) (λ k a. o.sum c.args.coefficient (o.product (coeff o c.args.points.now k) a)) c.args.values.now here.values here.k
    c.index-values-k.result c.plus.result (omega arith) c.index-values-k.is
    (c.plus.ensures ∙ ap (o.sum c.args.coefficient) (c.times.ensures ∙ ap₂ o.product (sym c.index-points-k.is ∙ coeff_read o c.args.points.now here.k c.index-points-k.result (omega arith) c.index-points-k.is) (sym c.index-values-k.is)))
    here.invariant

pub returns : goal.returns
returns g c k h = c.loop-k.invariant.0 k (omega arith)
