use Rattle.std.proofs.Common.{◌≡◌, [], ◌++◌, map, get_or, take, drop, set}
use Rattle.dual_form.specs.DualForm.{symbol}
use Rattle.bank.proofs.holder.restore_lane.Given as goal

abbrev pub invariant-loop-place : goal.invariant-loop-place
invariant-loop-place g l =
    g.B.Bank.lanes l.bank ≡ set (g.B.Bank.lanes l.initial.bank) l.lane
    (take l.place (map symbol l.row) ++ drop l.place (get_or (g.B.Bank.lanes l.initial.bank) l.lane []))
