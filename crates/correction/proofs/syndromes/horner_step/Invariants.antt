use Rattle.polynomial.specs.Coefficients.{coeff}
use Rattle.polynomial.proofs.Lawful.{lawful}
use Rattle.correction.proofs.Rows.{Changed}
use Rattle.correction.proofs.syndromes.horner_step.Given as goal

abbrev pub invariant-loop-k : goal.invariant-loop-k
invariant-loop-k g l =
    let o = g.F.Field.ops in
    Changed (lawful g.met.F.Field.laws) (λ k a. o.sum l.coefficient (o.product (coeff o l.points k) a)) l.initial.values l.values l.k
