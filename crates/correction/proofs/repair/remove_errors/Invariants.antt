use Rattle.std.proofs.Common.{◌≡◌}
use Rattle.code.specs.Code.{telemetry}
use Rattle.polynomial.specs.Coefficients.{coeff}
use Rattle.locator.specs.Correction.{Syndromes, Repaired}
use Rattle.correction.proofs.repair.remove_errors.Given as goal

abbrev pub invariant-loop-symbol : goal.invariant-loop-symbol
invariant-loop-symbol g l =
    let o = g.F.Field.ops in
    record {
      place : l.search.place ≡ l.symbol-index;
      locator : l.search.locator ≡ l.initial.search.locator;
      syndromes : l.search.syndromes ≡ l.initial.search.syndromes;
      repaired : Repaired o telemetry (coeff o l.initial.search.syndromes) l.initial.search.locator.coefficients l.symbol-index l.initial.word l.word;
      running : Syndromes o telemetry l.initial.word (coeff o l.initial.search.left) → Syndromes o telemetry l.word (coeff o l.search.left);
    }
