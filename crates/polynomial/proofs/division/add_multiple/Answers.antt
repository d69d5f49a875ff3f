use Rattle.std.proofs.Common.{arith, length-take-le}
use Rattle.polynomial.proofs.Lawful.{lawful}
use Rattle.polynomial.proofs.Multiples.{add_next, add_end}
use Rattle.polynomial.proofs.division.add_multiple.Goals as goal

pub loop-j-preserved : goal.loop-j-preserved
loop-j-preserved g c =
    let long = length-take-le c.min.result c.args.by.now (omega arith) in
    add_next (lawful g.met.F.Field.laws) c.args.buffer.now c.loop-j.buffer c.args.by.now c.args.k c.loop-j.j c.min.result c.args.f
    c.index-buffer-k.result c.index-within-j.result c.times.result c.plus.result (omega arith) (omega arith) (omega arith)
    c.index-buffer-k.is c.index-within-j.is c.times.ensures c.plus.ensures c.loop-j.invariant

pub returns-clause-added : goal.returns-clause-added
returns-clause-added g c =
    let long = length-take-le c.min.result c.args.by.now (omega arith) in
    add_end (lawful g.met.F.Field.laws) c.args.buffer.now c.loop-j.buffer c.args.by.now c.args.k c.loop-j.j c.args.f (λ h. omega arith) c.loop-j.invariant
