use Rattle.std.proofs.Common.{◌≡◌, ◌++◌, take, drop}
use Rattle.bank.specs.Lanes.{elements}
use Rattle.bank.proofs.holder.Holder.restore.Given as goal

abbrev pub invariant-loop-lane : goal.invariant-loop-lane
invariant-loop-lane g l = g.B.Bank.lanes l.self.1.0 ≡ take l.lane (elements l.fn.self.copy) ++ drop l.lane (g.B.Bank.lanes l.fn.self.bank)
