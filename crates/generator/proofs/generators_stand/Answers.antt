use Rattle.polynomial.proofs.Lawful.{lawful}
use Rattle.generator.proofs.Computed.{generators}
use Rattle.generator.proofs.generators_stand.Goals as goal

pub returns : goal.returns
returns g c = generators (lawful g.met.F.Field.laws)
