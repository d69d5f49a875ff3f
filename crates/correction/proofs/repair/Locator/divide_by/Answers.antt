use Rattle.std.proofs.Common.{◌≡◌, ◌+◌, ◌-◌, length, get_or, ap, arith, rules}
use Rattle.polynomial.proofs.Lawful.{lawful}
use Rattle.correction.proofs.Quotients.{down_start, down_next, down_all}
use Rattle.correction.proofs.repair.Locator.divide_by.Goals as goal

pub loop-i-init : goal.loop-i-init
loop-i-init g c =
    down_start (lawful g.met.F.Field.laws) c.args.self.now.coefficients c.args.r c.args.syndromes.now c.args.self.now.degree _ _ _
    c.zero-coefficient.ensures c.zero-value.ensures c.zero-applied.ensures c.args.self.now.above

pub loop-i-preserved : goal.loop-i-preserved
loop-i-preserved g c =
    let poly = c.args.self.now.coefficients in
    let syndromes = c.args.syndromes.now in
    let i = c.loop-i.i in
    let long : length poly ≡ 33 = search rules in
    down_next (lawful g.met.F.Field.laws) poly c.args.r syndromes i _ _ _
    (get_or poly (i - 1 + 1) c.index-self-i.result) c.times.result _ c.times-in-loop-i.result _ (get_or syndromes (i - 1) c.index-syndromes-i.result) c.times-in-loop-i-2.result _
    (omega arith) (omega (arith, long, c.args.self.now.few)) (omega (arith, c.args.self.now.few)) (ap (get_or poly (i - 1 + 1)) c.index-self-i.is)
    c.times.ensures c.plus-coefficient.ensures c.times-in-loop-i.ensures c.plus-value.ensures
    (ap (get_or syndromes (i - 1)) c.index-syndromes-i.is) c.times-in-loop-i-2.ensures c.plus-applied.ensures c.loop-i.invariant

pub returns : goal.returns
returns g c =
    down_all (lawful g.met.F.Field.laws) c.args.self.now.coefficients c.args.r c.args.syndromes.now _ _ _ c.loop-i.i (omega arith) c.loop-i.invariant
