use Rattle.polynomial.proofs.Lawful.{lawful}
use Rattle.polynomial.proofs.Clauses.{coeff_plus, coeff_scale}
use Rattle.polynomial.proofs.Algebra.{times_crossed, shift_above, shift_below}
use Rattle.polynomial.proofs.coefficients_stand.Goals as goal

pub returns : goal.returns
returns g c =
    let F = lawful g.met.F.Field.laws in
    record { of_plus = coeff_plus F; of_scale = coeff_scale F; of_times = times_crossed F; of_shift = shift_above F; below_shift = shift_below F }
