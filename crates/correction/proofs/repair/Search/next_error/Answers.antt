use Rattle.std.proofs.Common.{Some, rules, refl, sym, ap, ◌∙◌}
use Rattle.std.proofs.lemmas.Bool.{not-false}
use Rattle.std.proofs.lemmas.Bool.Decides.{Decides-not}
use Rattle.field.specs.Polynomial.{value}
use Rattle.code.specs.Code.{telemetry}
use Rattle.locator.specs.Correction.{locator}
use Rattle.polynomial.specs.Coefficients.{coeff}
use Rattle.polynomial.proofs.Lawful.{lawful}
use Rattle.correction.proofs.Extending.{tested}
use Rattle.correction.proofs.Places.{told_none, told_double, told_error, told_same}
use Rattle.correction.proofs.repair.Search.next_error.Goals as goal

pub returns-then-ne-clause-told : goal.returns-then-ne-clause-told
returns-then-ne-clause-told g c =
    let F = lawful g.met.F.Field.laws in
    let s = c.args.self.now in
    let next = c.next_value.new.self in
    let told = c.next_value.ensures in
    told_same F telemetry s.locator.coefficients _ s.syndromes _ next.left _ next.left s.place s.place (Some c.zero-then-ne.result) _ refl refl told.left refl refl
    (told_none F telemetry _ (coeff F.ops s.syndromes) s.x s.scale s.place s.x_is s.scale_is c.next_value.result told.value next.left _ c.zero-then-ne.ensures
    ((Decides-not _ (tested F c.next_value.result c.zero.result _ (g.met.F.Field.equal _ _) c.zero.ensures)).0 (sym c.if-ne.ensures)))

pub returns-in_err-error-clause-told : goal.returns-in_err-error-clause-told
returns-in_err-error-clause-told g c =
    let F = lawful g.met.F.Field.laws in
    let s = c.args.self.now in
    let next = c.next_value.new.self in
    let told = c.next_value.ensures in
    let same = ap (λ l. l.coefficients) told.locator in
    told_same F telemetry next.locator.coefficients _ next.syndromes _ next.left _ _ s.place s.place _ _ same told.syndromes told.left refl c.from_residual.ensures
    (told_double F telemetry next.locator.coefficients (coeff F.ops next.syndromes) s.x s.scale s.place s.x_is s.scale_is c.next_value.result
    (told.value ∙ ap (λ p. value F.ops p (locator F.ops telemetry s.place)) (sym same)) next.left
    ((tested F c.next_value.result c.zero.result _ (g.met.F.Field.equal _ _) c.zero.ensures).0 (not-false _ (sym c.if-ne.ensures))) c.in_err-error.ensures)

pub returns-clause-told : goal.returns-clause-told
returns-clause-told g c =
    let F = lawful g.met.F.Field.laws in
    let s = c.args.self.now in
    let next = c.next_value.new.self in
    let told = c.next_value.ensures in
    let same = ap (λ l. l.coefficients) told.locator in
    told_same F telemetry next.locator.coefficients _ next.syndromes _ next.left _ c.add_powers.new.syndromes s.place s.place (Some c.in_ok-error.error) _ same told.syndromes told.left refl refl
    (told_error F telemetry next.locator.coefficients (coeff F.ops next.syndromes) s.x s.scale s.place s.x_is s.scale_is c.next_value.result
    (told.value ∙ ap (λ p. value F.ops p (locator F.ops telemetry s.place)) (sym same)) next.left c.in_ok-error.error c.times.result c.add_powers.new.syndromes (search rules)
    ((tested F c.next_value.result c.zero.result _ (g.met.F.Field.equal _ _) c.zero.ensures).0 (not-false _ (sym c.if-ne.ensures))) c.in_ok-error.ensures c.times.ensures c.add_powers.ensures)
