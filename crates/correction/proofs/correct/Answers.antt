use Rattle.code.specs.Code.{telemetry}
use Rattle.polynomial.proofs.Lawful.{lawful}
use Rattle.std.proofs.Common.{refl, rules}
use Rattle.correction.proofs.Endings.{clean_word}
use Rattle.correction.proofs.correct.Goals as goal

pub returns-then-is_zero : goal.returns-then-is_zero
returns-then-is_zero g c full leaves =
    clean_word (lawful g.met.F.Field.laws) telemetry c.args.word.now c.args.remainder.now (search rules) leaves (c.if-is_zero.ensures.zero refl)
