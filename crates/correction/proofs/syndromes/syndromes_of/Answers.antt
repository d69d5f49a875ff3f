use Rattle.std.proofs.Common.{arith}
use Rattle.code.specs.Code.{telemetry}
use Rattle.polynomial.proofs.Lawful.{lawful}
use Rattle.correction.proofs.Endings.{values_syndromes}
use Rattle.correction.proofs.syndromes.syndromes_of.Goals as goal

pub returns : goal.returns
returns g c =
    values_syndromes (lawful g.met.F.Field.laws) telemetry c.args.remainder.now _ _ _ _ 32 (omega arith)
    c.args.gamma.now.lead_is c.args.gamma.now.base_is c.powers.ensures c.values_at.ensures
