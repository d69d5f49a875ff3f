use Rattle.polynomial.proofs.Lawful.{lawful}
use Rattle.correction.proofs.Rows.{Halfway}
use Rattle.correction.proofs.syndromes.values_at.Given as goal

abbrev pub invariant-loop-coefficient : goal.invariant-loop-coefficient
invariant-loop-coefficient g l = Halfway (lawful g.met.F.Field.laws) l.coefficients l.points l.values l.coefficient-iterator.iter.rest.now
