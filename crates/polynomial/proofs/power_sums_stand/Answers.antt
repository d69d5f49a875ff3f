use Rattle.polynomial.proofs.Lawful.{lawful}
use Rattle.polynomial.proofs.Sums.{power_sums}
use Rattle.polynomial.proofs.power_sums_stand.Goals as goal

pub returns : goal.returns
returns g c = power_sums (lawful g.met.F.Field.laws)
