use Rattle.std.proofs.Common.{◌≡◌, ℕ, ◌<◌, [], get_or}
use Rattle.bank.specs.Lanes.{zeros}
use Rattle.rack.specs.Rows.{row}
use Rattle.rack.proofs.row.RowBank.clear.Given as goal

abbrev pub invariant-loop-bank : goal.invariant-loop-bank
invariant-loop-bank g l = (k : ℕ) → k < l.bank-index → get_or (row g.D.Bank.lanes l.bank-items) k [] ≡ zeros
