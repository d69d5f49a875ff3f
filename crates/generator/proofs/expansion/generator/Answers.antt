use Rattle.std.proofs.Common.{◌∙◌, refl, subst, arith}
use Rattle.polynomial.proofs.Lawful.{lawful}
use Rattle.code.specs.Code.{telemetry, root}
use Rattle.generator.specs.Generator.{Multiplied}
use Rattle.generator.proofs.Steps.{factor_none, factor_next, factors_all}
use Rattle.generator.proofs.expansion.generator.Goals as goal

pub loop-k-init : goal.loop-k-init
loop-k-init g c = record {
  long = refl;
  so_far = factor_none (lawful g.met.F.Field.laws) (root g.F.Field.ops telemetry) 32 c.zero-coefficients.result c.one.result c.zero-coefficients.ensures c.one.ensures;
}

pub loop-k-preserved : goal.loop-k-preserved
loop-k-preserved g c =
    let multiplied = subst (λ r. Multiplied g.F.Field.ops r c.loop-k.coefficients c.multiply.new.coefficients) c.gamma_to.ensures c.multiply.ensures in record {
      long = multiplied.long ∙ c.loop-k.invariant.long;
      so_far = factor_next (lawful g.met.F.Field.laws) (root g.F.Field.ops telemetry) 32 c.loop-k.k c.loop-k.coefficients c.multiply.new.coefficients
          c.loop-k.invariant.long (omega arith) c.loop-k.invariant.so_far multiplied;
    }

pub returns : goal.returns
returns g c =
    factors_all (lawful g.met.F.Field.laws) (root g.F.Field.ops telemetry) 32 c.loop-k.k c.loop-k.coefficients c.loop-k.invariant.long (omega arith)
    c.loop-k.invariant.so_far
