use Rattle.std.proofs.Common.{sym, ap, ◌∙◌, subst}
use Rattle.field.specs.Polynomial.{value}
use Rattle.polynomial.specs.Coefficients.{coeff}
use Rattle.polynomial.proofs.Lawful.{lawful}
use Rattle.locator.specs.Applied.{deflated}
use Rattle.correction.specs.Correcting.{Error}
use Rattle.correction.proofs.Extending.{none_of, some_of}
use Rattle.correction.proofs.Quotients.{quotient_of}
use Rattle.correction.proofs.repair.Locator.error_at.Goals as goal

pub returns-in_err-reciprocal : goal.returns-in_err-reciprocal
returns-in_err-reciprocal g c =
    let F = lawful g.met.F.Field.laws in
    subst (Error F.ops c.args.self.now.coefficients c.args.r c.args.scale (coeff F.ops c.args.syndromes.now)) (sym c.from_residual.ensures)
    (ap (λ t. F.ops.product t c.args.scale) (sym c.divide_by-quotient.ensures.value_is) ∙ sym c.times.ensures ∙ none_of F c.times.result c.in_err-reciprocal.ensures)

pub returns : goal.returns
returns g c =
    let F = lawful g.met.F.Field.laws in
    quotient_of F _ (value F.ops (deflated F.ops c.args.r c.args.self.now.coefficients) c.args.r) c.args.scale c.in_ok-reciprocal.reciprocal c.times-2.result c.times.result
    (c.times.ensures ∙ ap (λ t. F.ops.product t c.args.scale) c.divide_by-quotient.ensures.value_is) (some_of F c.times.result c.in_ok-reciprocal.reciprocal (sym c.in_ok-reciprocal.was ∙ c.reciprocal.ensures))
    (c.times-2.ensures ∙ ap (λ t. F.ops.product t c.in_ok-reciprocal.reciprocal) c.divide_by-quotient.ensures.applied_is)
