use Rattle.std.proofs.Common.{◌≡◌}
use Rattle.field.specs.Field.{power}
use Rattle.field.proofs.power.Given as goal

abbrev pub invariant-loop-i : goal.invariant-loop-i
invariant-loop-i g l = l.x ≡ power g.F.Field.ops l.base l._i
