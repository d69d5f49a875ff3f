use Rattle.std.proofs.Common.{◌≡◌, take}
use Rattle.field.specs.Polynomial.{value}
use Rattle.polynomial.specs.Coefficients.{coeff}
use Rattle.polynomial.proofs.Lawful.{lawful}
use Rattle.correction.proofs.Rows.{Changed}
use Rattle.correction.proofs.repair.next_sum.Given as goal

abbrev pub invariant-loop-j : goal.invariant-loop-j
invariant-loop-j g l =
    let o = g.F.Field.ops in
    Changed (lawful g.met.F.Field.laws) (λ j a. o.product (coeff o l.steps j) a) l.initial.terms l.terms l.j
    × (l.sum ≡ value o (take l.j l.initial.terms) o.unit)
