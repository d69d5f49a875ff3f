use Rattle.std.proofs.Common.{◌≡◌}
use Rattle.field.specs.Field.{alpha_power}
use Rattle.field.specs.Polynomial.{first_root}
use Rattle.field.proofs.first_root.Given as goal

-- x is α^n, and the first root from n on is the one that is looked for.
abbrev pub invariant-loop-n : goal.invariant-loop-n
invariant-loop-n g l =
    let o = g.F.Field.ops in (l.x ≡ alpha_power o l.n) × (first_root o l.coefficients l.n ≡ first_root o l.coefficients l.fn.from)
