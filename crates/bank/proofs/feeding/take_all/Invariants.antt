use Rattle.std.proofs.Common.{◌≡◌, take}
use Rattle.bank.specs.Lanes.{all_fed}
use Rattle.bank.proofs.feeding.take_all.Given as goal

abbrev pub invariant-loop-byte : goal.invariant-loop-byte
invariant-loop-byte g l = g.B.Bank.lanes l.bank ≡ all_fed (g.B.Bank.lanes l.initial.bank) l.lane (take l.byte-index l.bytes)
