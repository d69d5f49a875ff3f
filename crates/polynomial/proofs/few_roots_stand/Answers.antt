use Rattle.polynomial.proofs.Lawful.{lawful}
use Rattle.polynomial.proofs.Factors.{few_roots}
use Rattle.polynomial.proofs.few_roots_stand.Goals as goal

pub returns : goal.returns
returns g c = few_roots (lawful g.met.F.Field.laws)
