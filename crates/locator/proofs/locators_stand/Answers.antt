use Rattle.locator.proofs.Locating.{locators}
use Rattle.locator.proofs.locators_stand.Goals as goal

pub returns : goal.returns
returns g c = locators (record { ops = g.F.Field.ops; laws = g.met.F.Field.laws })
