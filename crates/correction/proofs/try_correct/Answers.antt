use Rattle.std.proofs.Common.{◌*◌, ◌^◌, ◌<◌, sym, subst, arith, rules}
use prog.Memory.{size}
use denote.Param.{copied, layout}
use Rattle.polynomial.specs.Coefficients.{coeff}
use Rattle.polynomial.proofs.Lawful.{lawful}
use Rattle.code.specs.Code.{telemetry}
use Rattle.generator.proofs.Computed.{generators}
use Rattle.correction.specs.Correcting.{Removed, Tried}
use Rattle.correction.proofs.Room.{locator_fits, shortest_fits}
use Rattle.correction.proofs.Endings.{leaves_syndromes, whole, far_degree, tried}
use Rattle.correction.proofs.try_correct.Goals as goal

pub of-requires : goal.of-requires
of-requires g c =
    let fits : 255 * size (layout (copied 0 g.row.F)) < 2 ^ 63 = search rules in
    (omega (arith, fits), shortest_fits g.row.F g.F.Field g.F.PartialEq fits)

pub new-requires : goal.new-requires
new-requires g c =
    let fits : 255 * size (layout (copied 0 g.row.F)) < 2 ^ 63 = search rules in
    (shortest_fits g.row.F g.F.Field g.F.PartialEq fits, locator_fits g.row.F g.F.Field g.F.PartialEq fits)

pub remove_errors-requires : goal.remove_errors-requires
remove_errors-requires g c =
    let fits : 255 * size (layout (copied 0 g.row.F)) < 2 ^ 63 = search rules in
    (fits, (locator_fits g.row.F g.F.Field g.F.PartialEq fits, omega (arith, fits)))

pub returns-in_err-locator : goal.returns-in_err-locator
returns-in_err-locator g c full leaves =
    let F = lawful g.met.F.Field.laws in
    let found = c.of.result in
    let syndromes = c.syndromes_of-syndromes in
    let word = c.args.word.now in
    subst (Tried F.ops telemetry word word) (sym c.from_residual.ensures)
    (far_degree F telemetry ((generators F).telemetry_fits full) word (coeff F.ops syndromes.result)
    (leaves_syndromes F telemetry word c.args.remainder.now (coeff F.ops syndromes.result) leaves syndromes.ensures) found.poly found.degree found.before found.miss
    (whole F telemetry found.sequence syndromes.result found.places found.poly found.degree found.before found.miss c.of.ensures.sequence c.of.ensures.places found.stands)
    c.in_err-locator.ensures.refused)

pub returns : goal.returns
returns g c full leaves =
    let F = lawful g.met.F.Field.laws in
    let found = c.of.result in
    let locator = c.in_ok-locator.locator in
    let kept = c.in_ok-locator.ensures.kept in
    let syndromes = c.syndromes_of-syndromes in
    let word = c.args.word.now in
    let after = c.remove_errors.new.word in
    tried F telemetry ((generators F).telemetry_fits full) word (coeff F.ops syndromes.result)
    (leaves_syndromes F telemetry word c.args.remainder.now (coeff F.ops syndromes.result) leaves syndromes.ensures) found.poly found.degree found.before found.miss
    (whole F telemetry found.sequence syndromes.result found.places found.poly found.degree found.before found.miss c.of.ensures.sequence c.of.ensures.places found.stands)
    (search rules) (omega (arith, locator.few, kept.1)) after c.remove_errors.result
    (subst (λ p. Removed F.ops telemetry p found.degree (coeff F.ops syndromes.result) word after c.remove_errors.result) kept.0
    (subst (λ n. Removed F.ops telemetry locator.coefficients n (coeff F.ops syndromes.result) word after c.remove_errors.result) kept.1 c.remove_errors.ensures))
