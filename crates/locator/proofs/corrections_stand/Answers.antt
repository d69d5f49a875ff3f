use Rattle.locator.proofs.Corrected.{corrections}
use Rattle.locator.proofs.corrections_stand.Goals as goal

pub returns : goal.returns
returns g c = corrections (record { ops = g.F.Field.ops; laws = g.met.F.Field.laws })
