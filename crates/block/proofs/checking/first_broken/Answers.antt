use Rattle.std.proofs.Common.{◌≡◌, ◌+◌, ◌-◌, true, false, sym, ap, ◌∙◌, ap₂}
use Rattle.field.specs.Field.{alpha_power}
use Rattle.field.specs.Polynomial.{value}
use Rattle.field.proofs.Firsts.{first_none}
use Rattle.field.proofs.Horner.{power_next}
use Rattle.dual_form.specs.DualForm.{dual_ops}
use Rattle.block.specs.Verdicts.{sum_at, is_broken, broken_or, first_broken}
use Rattle.block.proofs.Found.{lanes_opened, lanes_done, root_passed, root_stops}
use Rattle.block.proofs.checking.first_broken.Goals as goal

pub loop-root-init : goal.loop-root-init
loop-root-init c =
    (c.gamma_to-x.ensures, sym (lanes_opened c.args.block.now.depth.lanes c.args.block.now.bytes.now c.loop-lane.lane c.loop-lane-test.true) ∙ c.loop-lane.invariant)

pub loop-root-preserved : goal.loop-root-preserved
unfolding sum_at
loop-root-preserved c =
    let d = c.args.block.now.depth.lanes in
    let block = c.args.block.now.bytes.now in
    let l = c.loop-lane.lane in
    let zero_there : dual_ops.same (sum_at d block l c.loop-root.root) dual_ops.nought ≡ true =
    sym (ap₂ (λ w x. dual_ops.same (value dual_ops w x) dual_ops.nought) c.word-symbols.ensures c.loop-root.invariant.0) ∙ sym c.if-not-is_root.ensures in (
      c.times-x.ensures
          ∙ ap₂ dual_ops.product c.gamma-step.ensures c.loop-root.invariant.0
          ∙ power_next dual_ops (alpha_power dual_ops 11) c.loop-root.root,
      root_passed d block l c.loop-root.root c.loop-root-test.true (first_broken d block (d - (l + 1)) (l + 1)) zero_there ∙ c.loop-root.invariant.1,
    )

pub loop-lane-preserved : goal.loop-lane-preserved
loop-lane-preserved c =
    let d = c.args.block.now.depth.lanes in
    let block = c.args.block.now.bytes.now in
    let l = c.loop-lane.lane in
    ap (λ f. broken_or l f (first_broken d block (d - (l + 1)) (l + 1))) (sym (first_none (is_broken d block l) 144 c.loop-root.root c.loop-root-test.false))
    ∙ c.loop-root.invariant.1

pub returns-then-not-is_root : goal.returns-then-not-is_root
unfolding sum_at
returns-then-not-is_root c =
    let d = c.args.block.now.depth.lanes in
    let block = c.args.block.now.bytes.now in
    let l = c.loop-lane.lane in
    let not_zero : dual_ops.same (sum_at d block l c.loop-root.root) dual_ops.nought ≡ false =
    sym (ap₂ (λ w x. dual_ops.same (value dual_ops w x) dual_ops.nought) c.word-symbols.ensures c.loop-root.invariant.0) ∙ sym c.if-not-is_root.ensures in
    root_stops d block l c.loop-root.root c.loop-root-test.true (first_broken d block (d - (l + 1)) (l + 1)) not_zero ∙ c.loop-root.invariant.1

pub returns-after-loop-lane : goal.returns-after-loop-lane
returns-after-loop-lane c =
    sym (lanes_done c.args.block.now.depth.lanes c.args.block.now.bytes.now c.loop-lane.lane c.loop-lane-test.false) ∙ c.loop-lane.invariant
