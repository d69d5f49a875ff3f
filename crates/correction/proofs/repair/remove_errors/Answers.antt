use Rattle.std.proofs.Common.{◌+◌, ◌*◌, ◌^◌, ◌<◌, Some, sym, refl, ap, ◌∙◌, arith, rules}
use prog.Memory.{size}
use denote.Param.{copied, layout}
use Rattle.correction.proofs.Room.{locator_fits, search_fits}
use Rattle.code.specs.Code.{telemetry}
use Rattle.polynomial.proofs.Lawful.{lawful}
use Rattle.correction.proofs.Endings.{removed}
use Rattle.correction.proofs.Places.{told_same, repaired_next, running_next}
use Rattle.correction.proofs.repair.remove_errors.Goals as goal

pub new-search-requires : goal.new-search-requires
new-search-requires g c =
    let fits : 255 * size (layout (copied 0 g.row.F)) < 2 ^ 63 = search rules in
    (locator_fits g.row.F g.F.Field g.F.PartialEq fits, (omega (arith, fits), search_fits g.row.F g.F.Field g.F.PartialEq fits))

pub next_error-requires : goal.next_error-requires
next_error-requires g c =
    let fits : 255 * size (layout (copied 0 g.row.F)) < 2 ^ 63 = search rules in
    (search_fits g.row.F g.F.Field g.F.PartialEq fits, omega (arith, c.loop-symbol.invariant.place))

pub loop-symbol-preserved : goal.loop-symbol-preserved
loop-symbol-preserved g c =
    let F = lawful g.met.F.Field.laws in
    let s = c.loop-symbol.search in
    let i = c.loop-symbol.symbol-index in
    let so_far = c.loop-symbol.invariant in
    let first = c.new-search.result in
    let e = c.in_ok-next_error.field-0 in
    let next = c.next_error.new.self in
    let sum = c.plus.ensures ∙ ap (λ a. F.ops.sum a e) (sym c.symbol-item.is) in
    let told = told_same F telemetry s.locator.coefficients first.locator.coefficients s.syndromes first.syndromes s.left s.left next.left s.place i (Some e) (Some e)
    (ap (λ l. l.coefficients) so_far.locator) so_far.syndromes refl so_far.place refl c.in_ok-next_error.ensures.told in
    record {
      place = c.in_ok-next_error.ensures.place ∙ ap (λ n. n + 1) so_far.place;
      locator = c.in_ok-next_error.ensures.locator ∙ so_far.locator;
      syndromes = c.in_ok-next_error.ensures.syndromes ∙ so_far.syndromes;
      repaired = repaired_next F telemetry first.locator.coefficients _ c.args.word.now first.left c.loop-symbol.word s.left next.left i c.symbol-item.result e c.plus.result
          c.symbol-item.is sum (omega arith) told so_far.repaired;
      running = running_next F telemetry first.locator.coefficients _ c.args.word.now first.left c.loop-symbol.word s.left next.left i c.symbol-item.result e c.plus.result
          c.symbol-item.is sum (omega arith) told so_far.running;
    }

pub returns : goal.returns
returns g c =
    let end = c.loop-symbol.search in
    let so_far = c.loop-symbol.invariant in
    let first = c.new-search.result in
    let new = c.new-search.ensures in
    let locator = so_far.locator ∙ new.locator in
    removed (lawful g.met.F.Field.laws) telemetry first.locator.coefficients c.args.locator.coefficients first.syndromes c.args.syndromes first.left end.left c.args.word.now c.loop-symbol.word
    end.locator.degree c.args.locator.degree c.loop-symbol.symbol-index c.is_zero.result _ (ap (λ l. l.coefficients) new.locator) new.syndromes new.left
    (ap (λ l. l.degree) locator) (omega arith) (search rules) so_far.repaired so_far.running c.then_some.ensures c.is_zero.ensures.zero c.is_zero.ensures.other
