use Rattle.std.proofs.Common.{ap, ◌∙◌}
use Rattle.field.specs.Field.{power}
use Rattle.field.proofs.Ring.{one_mul}
use Rattle.code.specs.Code.{telemetry}
use Rattle.polynomial.proofs.Lawful.{lawful}
use Rattle.correction.proofs.Places.{first_place}
use Rattle.correction.proofs.repair.Search.new.Goals as goal

pub invariant_of-result : goal.invariant_of-result
invariant_of-result g c =
    let F = lawful g.met.F.Field.laws in
    let first = first_place F telemetry c.args.locator.coefficients c.one-2.result c.one-3.result c.one-2.ensures c.one-3.ensures in
    record {
      steps_are = λ j h. c.powers.ensures j h ∙ ap (λ a. F.ops.product a (power F.ops c.args.gamma.base j)) c.one.ensures ∙ one_mul F _;
      x_is = first.x_is;
      scale_is = first.scale_is;
      terms_are = first.terms_are;
    }
