use Rattle.locator.proofs.Turns.{recurrences}
use Rattle.locator.proofs.recurrences_stand.Goals as goal

pub returns : goal.returns
returns g c = recurrences (record { ops = g.F.Field.ops; laws = g.met.F.Field.laws })
