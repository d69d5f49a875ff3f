use Rattle.bank.specs.Beside.{there_left, there_right, placed_left, placed_right}
use Rattle.bank.proofs.pair.PairBank.set.Goals as goal

pub returns-in-Left : goal.returns-in-Left
returns-in-Left g c =
    let on = rw c.in-Left.is at c.in_ok-lane.ensures in
    record { answer = rw (there_left on) c.set.ensures.answer; after = rw c.set.ensures.after (placed_left on _ _) }

pub returns-in-Right : goal.returns-in-Right
returns-in-Right g c =
    let on = rw c.in-Right.is at c.in_ok-lane.ensures in
    record { answer = rw (there_right on) c.set-in-Right.ensures.answer; after = rw c.set-in-Right.ensures.after (placed_right on _ _) }
