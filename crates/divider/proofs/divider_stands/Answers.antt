use Rattle.divider.proofs.Messages.{divider}
use Rattle.divider.proofs.divider_stands.Goals as goal

pub returns : goal.returns
returns g c = divider (record { ops = g.F.Field.ops; laws = g.met.F.Field.laws })
