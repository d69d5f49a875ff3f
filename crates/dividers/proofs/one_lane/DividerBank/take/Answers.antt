use Rattle.std.proofs.Common.{[], ◌∷◌, ap, ◌∙◌}
use Rattle.dividers.specs.Stepping.{takes, stay_wide}
use Rattle.dividers.proofs.one_lane.DividerBank.take.Goals as goal

pub returns-clause-after : goal.returns-clause-after
returns-clause-after g c =
    rw c.if-lane-ne0.false
    (ap (λ x. x ∷ []) (c.move_up.ensures
    ∙ takes g.F.Form.meant g.met.F.Form.sums g.met.F.Form.zero c.args.self.now.registers c.args.byte c.of_dual.result c.args.self.now.wide c.of_dual.ensures))

pub invariant_of-self : goal.invariant_of-self
invariant_of-self g c = record {
  wide = stay_wide g.F.Form.meant g.met.F.Form.sums g.met.F.Form.zero c.args.self.now.registers c.move_up.new.registers _ c.args.self.now.wide c.move_up.ensures;
}
