use Rattle.polynomial.proofs.Lawful.{lawful}
use Rattle.polynomial.proofs.Words.{far_apart}
use Rattle.polynomial.proofs.distance_stands.Goals as goal

pub returns : goal.returns
returns g c = far_apart (lawful g.met.F.Field.laws)
