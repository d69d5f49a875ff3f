use Rattle.std.proofs.Common.{sym, ◌∙◌, arith}
use Rattle.polynomial.proofs.Lawful.{lawful}
use Rattle.polynomial.proofs.Turns.{divide_start, divide_next, divide_end, top_inverse, top_inverts}
use Rattle.polynomial.proofs.division.divide.Goals as goal

pub returns-in_err-reciprocal : goal.returns-in_err-reciprocal
returns-in_err-reciprocal g c =
    absurd (top_inverts (lawful g.met.F.Field.laws) c.args.by.now c.in_ok-m.m c.index-by-m.result c.in_ok-m.ensures.degree c.index-by-m.is
    (sym c.reciprocal.ensures ∙ c.in_err-reciprocal.was))

pub loop-k-init : goal.loop-k-init
loop-k-init g c =
    divide_start (lawful g.met.F.Field.laws) c.args.buffer.now c.args.by.now c.in_ok-m.m _ (let e = c.saturating_sub-turns.ensures in omega arith)

pub loop-k-preserved : goal.loop-k-preserved
loop-k-preserved g c =
    let F = lawful g.met.F.Field.laws in
    divide_next F c.args.buffer.now c.loop-k.buffer c.add_multiple.new.buffer c.args.by.now c.in_ok-m.m c.loop-k.k c.index-buffer-k.result
    c.times-f.result c.in_ok-reciprocal.reciprocal c.in_ok-m.ensures.degree (omega arith) (omega arith) c.index-buffer-k.is
    (top_inverse F c.args.by.now c.in_ok-m.m c.index-by-m.result c.in_ok-m.ensures.degree c.index-by-m.is c.in_ok-reciprocal.reciprocal (sym c.in_ok-reciprocal.was ∙ c.reciprocal.ensures))
    c.times-f.ensures c.add_multiple.ensures.long c.add_multiple.ensures.added c.loop-k.invariant

pub returns : goal.returns
returns g c =
    divide_end (lawful g.met.F.Field.laws) c.args.buffer.now c.loop-k.buffer c.args.by.now c.in_ok-m.m c.loop-k.k
    c.loop-k-test.false c.loop-k.auto.buffer c.in_ok-m.ensures.degree c.loop-k.invariant
