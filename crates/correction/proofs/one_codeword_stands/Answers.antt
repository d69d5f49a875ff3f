use Rattle.code.specs.Code.{telemetry}
use Rattle.generator.proofs.Computed.{generators}
use Rattle.polynomial.proofs.Lawful.{lawful}
use Rattle.locator.proofs.Corrected.{corrections}
use Rattle.correction.proofs.one_codeword_stands.Goals as goal

pub returns : goal.returns
returns g c full =
    let F = lawful g.met.F.Field.laws in
    (corrections F telemetry ((generators F).telemetry_fits full)).one
