use Rattle.std.proofs.Common.{rules}
use Rattle.std.proofs.lemmas.List.{take_rest}
use Rattle.packet.proofs.Steps.{step_inside}
use Rattle.packet.proofs.reading.item_at.Goals as goal

pub returns-clause-inside : goal.returns-clause-inside
returns-clause-inside c =
    rw (c.front.ensures, take_rest c.args.message.now c.args.place) (step_inside c.args.place c.args.message.now (search rules))
