use Rattle.std.proofs.Common.{◌≡◌, ℕ, ◌<◌}
use Rattle.field.specs.Field.{power}
use Rattle.polynomial.specs.Coefficients.{coeff}
use Rattle.correction.proofs.syndromes.powers.Given as goal

abbrev pub invariant-loop-entry : goal.invariant-loop-entry
invariant-loop-entry g l =
    let o = g.F.Field.ops in
    ((j : ℕ) → j < l.entry-index → coeff o l.entry-items j ≡ o.product l.initial.x (power o l.base j)) × (l.x ≡ o.product l.initial.x (power o l.base l.entry-index))
