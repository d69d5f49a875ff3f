use Rattle.std.proofs.Common.{◌≡◌, take}
use Rattle.bank.specs.Lanes.{elements}
use Rattle.bank.proofs.holder.hold_lanes.Given as goal

abbrev pub invariant-loop-lane : goal.invariant-loop-lane
invariant-loop-lane g l = take l.lane (elements l.rows) ≡ take l.lane (g.B.Bank.lanes l.bank)
