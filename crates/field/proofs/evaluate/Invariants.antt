use Rattle.std.proofs.Common.{◌≡◌}
use Rattle.field.specs.Polynomial.{value}
use Rattle.field.proofs.Horner.{horner_above}
use Rattle.field.proofs.evaluate.Given as goal

-- What is left, above the sum so far, gives the value.
abbrev pub invariant-loop-coefficient : goal.invariant-loop-coefficient
invariant-loop-coefficient g l = horner_above g.F.Field.ops l.coefficient-iterator.iter.rest.now l.x l.sum ≡ value g.F.Field.ops l.coefficients l.x
