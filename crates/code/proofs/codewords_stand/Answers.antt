use Rattle.polynomial.proofs.Lawful.{lawful}
use Rattle.code.proofs.Words.{codewords}
use Rattle.code.proofs.codewords_stand.Goals as goal

pub returns : goal.returns
returns g c = codewords (lawful g.met.F.Field.laws)
