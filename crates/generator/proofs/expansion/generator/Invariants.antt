use Rattle.std.proofs.Common.{◌≡◌, length}
use Rattle.polynomial.specs.Coefficients.{Same}
use Rattle.code.specs.Code.{telemetry, root}
use Rattle.generator.specs.Generator.{product_of}
use Rattle.generator.proofs.expansion.generator.Given as goal

abbrev pub invariant-loop-k : goal.invariant-loop-k
invariant-loop-k g l = record {
  long : length l.coefficients ≡ 33;
  so_far : Same g.F.Field.ops l.coefficients (product_of g.F.Field.ops (root g.F.Field.ops telemetry) l.k);
}
