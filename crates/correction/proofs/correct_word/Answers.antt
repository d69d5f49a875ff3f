use Rattle.std.proofs.lemmas.Option.{MatchOption-at_some}
use Rattle.code.specs.Code.{telemetry}
use Rattle.polynomial.proofs.Lawful.{lawful}
use Rattle.correction.proofs.Endings.{divides, leaves_first}
use Rattle.correction.proofs.correct_word.Goals as goal

pub unwrap-requires : goal.unwrap-requires
unwrap-requires g c = divides (lawful g.met.F.Field.laws) telemetry _ _ _ _ c.generator.ensures c.divide.ensures

pub returns : goal.returns
returns g c full =
    let low = MatchOption-at_some _ _ c.unwrap-2.result c.unwrap-2.ensures c.first_chunk.ensures.cases in
    c.correct.ensures full
    (leaves_first (lawful g.met.F.Field.laws) telemetry _ _ c.divide.new.buffer _ _ c.unwrap.result c.generator.ensures c.unwrap.ensures c.divide.ensures low.same low.enough)
