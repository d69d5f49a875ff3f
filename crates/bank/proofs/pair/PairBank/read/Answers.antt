use Rattle.std.proofs.Common.{◌∙◌}
use Rattle.bank.specs.Beside.{told_left, told_right}
use Rattle.bank.proofs.pair.PairBank.read.Goals as goal

pub returns-in-Left : goal.returns-in-Left
returns-in-Left g c = c.read.ensures ∙ told_left (rw c.in-Left.is at c.in_ok-lane.ensures) c.args.place

pub returns-in-Right : goal.returns-in-Right
returns-in-Right g c = c.read-in-Right.ensures ∙ told_right (rw c.in-Right.is at c.in_ok-lane.ensures) c.args.place
