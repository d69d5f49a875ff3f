use Rattle.polynomial.proofs.Lawful.{lawful}
use Rattle.polynomial.proofs.Remainders.{remainder_plus, remainder_scale}
use Rattle.polynomial.proofs.linear_remainder_stands.Goals as goal

pub returns : goal.returns
returns g c =
    let F = lawful g.met.F.Field.laws in
    record { of_sum = remainder_plus F; of_multiple = remainder_scale F }
