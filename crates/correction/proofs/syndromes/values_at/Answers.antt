use Rattle.std.proofs.Common.{replicate, ap, ◌∙◌}
use Rattle.polynomial.specs.Coefficients.{coeff}
use Rattle.polynomial.proofs.Lawful.{lawful}
use Rattle.polynomial.proofs.Entries.{coeff_zeros}
use Rattle.correction.proofs.Rows.{values_none, values_next, values_all}
use Rattle.correction.proofs.syndromes.values_at.Goals as goal

pub loop-coefficient-init : goal.loop-coefficient-init
loop-coefficient-init g c =
    values_none (lawful g.met.F.Field.laws) c.args.coefficients.now c.args.points.now _ _ (cc)
    (λ k. ap (λ z. coeff g.F.Field.ops (replicate 32 z) k) c.zero-values.ensures ∙ coeff_zeros g.F.Field.ops 32 k)

pub loop-coefficient-preserved : goal.loop-coefficient-preserved
loop-coefficient-preserved g c =
    values_next (lawful g.met.F.Field.laws) c.args.coefficients.now c.args.points.now c.loop-coefficient.values _ _ _ c.in-Some.coefficient.now
    c.in-Some.ensures.steps c.horner_step.ensures c.loop-coefficient.invariant

pub returns : goal.returns
returns g c = values_all (lawful g.met.F.Field.laws) c.args.coefficients.now c.args.points.now _ _ c.in-None.ensures.steps.0 c.loop-coefficient.invariant
