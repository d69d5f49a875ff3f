use Rattle.locator.proofs.Corrected.{erasures}
use Rattle.locator.proofs.erasures_stand.Goals as goal

pub returns : goal.returns
returns g c = erasures (record { ops = g.F.Field.ops; laws = g.met.F.Field.laws })
