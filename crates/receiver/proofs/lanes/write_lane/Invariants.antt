use Rattle.std.proofs.Common.{◌≡◌, ℕ, ◌+◌, ◌*◌, ◌%◌, ◌<◌, get_or}
use Rattle.receiver.specs.Lanes.{OthersKept}
use Rattle.receiver.proofs.lanes.write_lane.Given as goal

abbrev pub invariant-loop-i : goal.invariant-loop-i
invariant-loop-i l =
    ((j : ℕ) → j < l.i → get_or l.message (j * l.depth.lanes + l.lane) 0 ≡ get_or l.fn.bytes j 0 % 256)
    × OthersKept l.depth.lanes l.lane l.initial.message l.message
