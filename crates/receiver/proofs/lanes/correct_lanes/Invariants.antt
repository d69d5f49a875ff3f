use Rattle.std.proofs.Common.{◌≡◌, ◌*◌, ◌≤◌, length}
use Rattle.receiver.specs.Lanes.{LanesRead}
use Rattle.receiver.proofs.lanes.correct_lanes.Given as goal

abbrev pub invariant-loop-lane : goal.invariant-loop-lane
invariant-loop-lane l =
    LanesRead l.block.depth.lanes l.block.bytes.now l.lane l.wrong l.message × (l.wrong ≤ 16 * l.lane) × (length l.message ≡ 1784)
