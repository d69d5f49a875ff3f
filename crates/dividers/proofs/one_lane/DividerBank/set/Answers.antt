use Rattle.std.proofs.Common.{[], ◌∷◌, map, set, ap, ◌∙◌}
use Rattle.std.proofs.lemmas.List.{map-set}
use Rattle.dividers.proofs.one_lane.DividerBank.set.Goals as goal

pub returns-clause-after : goal.returns-clause-after
returns-clause-after g c =
    let registers = c.args.self.now.registers in
    rw c.if-lane-ne0.false
    (ap (λ x. x ∷ []) (map-set g.F.Form.meant registers c.args.place c.of_dual.result ∙ ap (set (map g.F.Form.meant registers) c.args.place) c.of_dual.ensures))
