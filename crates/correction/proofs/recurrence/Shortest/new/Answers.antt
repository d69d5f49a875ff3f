use Rattle.std.proofs.Common.{replicate, ap, ◌∙◌, arith}
use Rattle.polynomial.specs.Coefficients.{coeff}
use Rattle.polynomial.proofs.Lawful.{lawful}
use Rattle.polynomial.proofs.Entries.{coeff_zeros}
use Rattle.correction.proofs.Extending.{start_in}
use Rattle.correction.proofs.recurrence.Shortest.new.Goals as goal

pub invariant_of-result-clause-stands : goal.invariant_of-result-clause-stands
invariant_of-result-clause-stands g c =
    let F = lawful g.met.F.Field.laws in
    start_in F _ _ _ _ _ c.one.ensures c.one-2.ensures (omega arith)
    (λ i. ap (λ z. coeff F.ops (replicate 33 z) i) c.zero-poly.ensures ∙ coeff_zeros F.ops 33 i)
    (λ i. ap (λ z. coeff F.ops (replicate 33 z) i) c.zero.ensures ∙ coeff_zeros F.ops 33 i)
