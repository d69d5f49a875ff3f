use Rattle.std.proofs.Common.{◌≡◌}
use Rattle.polynomial.specs.Coefficients.{coeff}
use Rattle.locator.specs.Applied.{applied}
use Rattle.correction.proofs.recurrence.apply.Given as goal

abbrev pub invariant-loop-a : goal.invariant-loop-a
invariant-loop-a g l =
    let o = g.F.Field.ops in
    o.sum l.sum (applied o l.a-iterator.a.rest.now (coeff o l.a-iterator.b.rest.now) 0) ≡ applied o l.poly (coeff o l.sequence) 0
