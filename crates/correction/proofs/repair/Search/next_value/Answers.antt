use Rattle.std.proofs.Common.{◌≡◌, ◌+◌, length, take, ◌∙◌, arith, rules, length-take-le}
use Rattle.code.specs.Code.{telemetry}
use Rattle.polynomial.proofs.Lawful.{lawful}
use Rattle.polynomial.proofs.Entries.{coeff_take}
use Rattle.correction.proofs.Places.{AtPlace, next_place, value_there}
use Rattle.correction.proofs.repair.Search.next_value.Goals as goal

pub invariant_of-self : goal.invariant_of-self
invariant_of-self g c =
    let F = lawful g.met.F.Field.laws in
    let s = c.args.self.now in
    let count = s.locator.degree + 1 in
    let long : length s.steps ≡ 33 = search rules in
    let read : length (take count s.steps) ≡ count = length-take-le count s.steps (omega (arith, long, s.locator.few)) in
    let here : AtPlace F telemetry s.locator.coefficients s.terms s.x s.scale s.place = record { x_is = s.x_is; scale_is = s.scale_is; terms_are = s.terms_are } in
    let next = next_place F telemetry _ _ _ _ _ here (length (take count s.steps)) (λ k h. s.locator.above k (omega (arith, read)))
    (take count s.steps) c.next_sum-value.new.terms s.gamma.base s.gamma.lead c.times-self.result c.times-self-2.result
    (λ j h. coeff_take F.ops s.steps count j (omega (arith, read)) ∙ s.steps_are j (omega (arith, read, s.locator.few))) s.gamma.base_is s.gamma.lead_is
    c.next_sum-value.ensures.terms c.next_sum-value.ensures.rest c.times-self.ensures c.times-self-2.ensures in
    record { steps_are = s.steps_are; x_is = next.x_is; scale_is = next.scale_is; terms_are = next.terms_are }

pub returns-clause-value : goal.returns-clause-value
returns-clause-value g c =
    let F = lawful g.met.F.Field.laws in
    let s = c.args.self.now in
    let count = s.locator.degree + 1 in
    let long : length s.steps ≡ 33 = search rules in
    let read : length (take count s.steps) ≡ count = length-take-le count s.steps (omega (arith, long, s.locator.few)) in
    let here : AtPlace F telemetry s.locator.coefficients s.terms s.x s.scale s.place = record { x_is = s.x_is; scale_is = s.scale_is; terms_are = s.terms_are } in
    value_there F telemetry _ _ _ _ _ here (length (take count s.steps)) (λ k h. s.locator.above k (omega (arith, read))) _ c.next_sum-value.ensures.sum
