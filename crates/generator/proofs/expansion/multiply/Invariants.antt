use Rattle.std.proofs.Common.{◌≡◌, ◌∷◌}
use Rattle.polynomial.specs.Coefficients.{coeff}
use Rattle.polynomial.proofs.Lawful.{lawful}
use Rattle.generator.proofs.Steps.{Partly}
use Rattle.generator.proofs.expansion.multiply.Given as goal

abbrev pub invariant-loop-coefficient : goal.invariant-loop-coefficient
invariant-loop-coefficient g l = record {
  so_far : Partly (lawful g.met.F.Field.laws) l.initial.coefficients l.coefficients l.root l.coefficient-index;
  below : l.below ≡ coeff g.F.Field.ops (g.F.Field.ops.nought ∷ l.initial.coefficients) l.coefficient-index;
}
