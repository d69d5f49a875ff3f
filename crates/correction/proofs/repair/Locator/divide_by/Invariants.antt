use Rattle.polynomial.proofs.Lawful.{lawful}
use Rattle.correction.proofs.Quotients.{DownTo}
use Rattle.correction.proofs.repair.Locator.divide_by.Given as goal

abbrev pub invariant-loop-i : goal.invariant-loop-i
invariant-loop-i g l = DownTo (lawful g.met.F.Field.laws) l.self.coefficients l.r l.syndromes l.coefficient l.value l.applied l.i
