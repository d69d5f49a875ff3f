use Rattle.std.proofs.Common.{rules}
use Rattle.polynomial.proofs.Lawful.{lawful}
use Rattle.polynomial.proofs.Degrees.{degree_from_top}
use Rattle.polynomial.proofs.division.degree.Goals as goal

pub returns-clause-degree : goal.returns-clause-degree
returns-clause-degree g c =
    degree_from_top (lawful g.met.F.Field.laws) c.args.coefficients.now c.rposition.result (search rules)
