use Rattle.bank.specs.Beside.{there_left, there_right, fed_left, fed_right}
use Rattle.bank.proofs.pair.PairBank.take.Goals as goal

pub returns-in-Left : goal.returns-in-Left
returns-in-Left g c =
    let on = rw c.in-Left.is at c.in_ok-lane.ensures in
    record { answer = rw (there_left on) c.take.ensures.answer; after = rw c.take.ensures.after (fed_left on _) }

pub returns-in-Right : goal.returns-in-Right
returns-in-Right g c =
    let on = rw c.in-Right.is at c.in_ok-lane.ensures in
    record { answer = rw (there_right on) c.take-in-Right.ensures.answer; after = rw c.take-in-Right.ensures.after (fed_right on _) }
