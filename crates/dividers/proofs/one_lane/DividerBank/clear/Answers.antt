use Rattle.std.proofs.Common.{[], ◌∷◌, ap}
use Rattle.dividers.specs.Stepping.{meant_zeros}
use Rattle.dividers.proofs.one_lane.DividerBank.clear.Goals as goal

pub returns : goal.returns
returns g c = ap (λ x. x ∷ []) (meant_zeros g.F.Form.meant g.met.F.Form.sums g.met.F.Form.zero)
