use Rattle.std.proofs.Common.{arith}
use Rattle.std.proofs.lemmas.Result.{err_from_is_err_and}
use Rattle.receiver.proofs.Reading.{read_none, read_all, read_lost}
use Rattle.receiver.proofs.Weaving.{depth_most}
use Rattle.receiver.proofs.lanes.correct_lanes.Goals as goal

pub loop-lane-init : goal.loop-lane-init
loop-lane-init c = (read_none c.args.block.now.depth.lanes c.args.block.now.bytes.now c.args.message.now, omega arith, c.told-message)

pub returns-in_err-wrong : goal.returns-in_err-wrong
returns-in_err-wrong c =
    let p = err_from_is_err_and c.from_residual.result c.from_residual.ensures.1 in
    let told = c.in_err-wrong.ensures in
    rw (p.1, p.2, told.0)
    (read_lost c.args.block.now.depth.lanes c.args.block.now.bytes.now c.loop-lane.lane c.loop-lane.wrong c.loop-lane.message c.loop-lane-test.true c.loop-lane.invariant.0 told.1)

pub returns : goal.returns
returns c =
    let d = c.args.block.now.depth.lanes in
    read_all d c.args.block.now.bytes.now c.loop-lane.lane c.loop-lane.wrong c.loop-lane.message (omega arith)
    (omega (arith, depth_most d c.args.block.now.depth.known)) c.loop-lane.invariant.0
