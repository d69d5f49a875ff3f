use Rattle.std.proofs.Common.{◌≡◌, ◌+◌, ◌-◌}
use Rattle.field.specs.First.{first_of}
use Rattle.code.specs.Code.{telemetry, gamma_power}
use Rattle.dual_form.specs.DualForm.{dual_ops}
use Rattle.block.specs.Verdicts.{is_broken, broken_or, first_broken}
use Rattle.block.proofs.checking.first_broken.Given as goal

abbrev pub invariant-loop-root : goal.invariant-loop-root
invariant-loop-root l =
    (l.x ≡ gamma_power dual_ops telemetry l.root)
    × (broken_or l.lane (first_of (is_broken l.block.depth.lanes l.block.bytes.now l.lane) (144 - l.root) l.root) (first_broken l.block.depth.lanes l.block.bytes.now (l.block.depth.lanes - (l.lane + 1)) (l.lane + 1))
    ≡ first_broken l.block.depth.lanes l.block.bytes.now l.block.depth.lanes 0)

abbrev pub invariant-loop-lane : goal.invariant-loop-lane
invariant-loop-lane l =
    first_broken l.block.depth.lanes l.block.bytes.now (l.block.depth.lanes - l.lane) l.lane ≡ first_broken l.block.depth.lanes l.block.bytes.now l.block.depth.lanes 0
