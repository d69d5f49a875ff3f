use Rattle.std.proofs.Common.{◌<◌, length, arith, rules}
use Rattle.std.proofs.lemmas.List.{length-take-le}
use Rattle.std.proofs.lemmas.Bool.{lt-ltb}
use Rattle.bank.proofs.Held.{copy_more, held_all, row_read}
use Rattle.bank.proofs.holder.hold_lanes.Goals as goal

pub loop-lane-init : goal.loop-lane-init
loop-lane-init g c = search rules

pub unwrap-requires : goal.unwrap-requires
unwrap-requires g c =
    let ls = g.B.Bank.lanes c.args.bank.now in
    let few = (g.met.B.Bank.shape c.args.bank.now).few in
    let rows = length-take-le c.count.result c.args.copy.now (omega arith) in
    let there : c.loop-lane.lane < length ls = omega arith in
    rw (c.read_all.ensures, lt-ltb c.loop-lane.lane (length ls) there)

pub loop-lane-preserved : goal.loop-lane-preserved
loop-lane-preserved g c =
    let ls = g.B.Bank.lanes c.args.bank.now in
    let few = (g.met.B.Bank.shape c.args.bank.now).few in
    let rows = length-take-le c.count.result c.args.copy.now (omega arith) in
    let row = row_read ls c.loop-lane.lane c.unwrap.result c.read_all.result c.read_all.ensures c.unwrap.ensures (omega arith) in
    copy_more c.loop-lane.rows ls c.loop-lane.lane _ (omega arith) (omega arith) c.loop-lane.invariant row

pub returns : goal.returns
returns g c =
    let few = (g.met.B.Bank.shape c.args.bank.now).few in
    let rows = length-take-le c.count.result c.args.copy.now (omega arith) in
    held_all (g.B.Bank.lanes c.args.bank.now) c.loop-lane.rows _ c.loop-lane.lane (omega arith) (omega arith) c.loop-lane.invariant
