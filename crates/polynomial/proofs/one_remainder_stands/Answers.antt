use Rattle.polynomial.proofs.Lawful.{lawful}
use Rattle.polynomial.proofs.Remainders.{exists, one_remainder, one_list}
use Rattle.polynomial.proofs.one_remainder_stands.Goals as goal

pub returns : goal.returns
returns g c =
    let F = lawful g.met.F.Field.laws in
    record { exists = exists F; unique = one_remainder F; exactly = one_list F }
