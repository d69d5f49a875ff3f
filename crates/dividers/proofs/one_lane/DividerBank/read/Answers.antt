use Rattle.std.proofs.Common.{Ok, sym, ap, ◌∙◌, arith}
use Rattle.std.proofs.lemmas.Bool.{lt-ltb}
use Rattle.dividers.specs.Stepping.{coeff_meant}
use Rattle.dividers.proofs.one_lane.DividerBank.read.Goals as goal

pub returns : goal.returns
returns g c =
    let register = coeff_meant g.F.Form.meant g.met.F.Form.sums g.met.F.Form.zero c.args.self.now.registers c.args.place (omega (arith, c.args.self.now.wide)) in
    rw (c.if-lane-ne0.false, lt-ltb c.args.place 32 (omega arith)) (ap Ok (c.to_dual.ensures ∙ ap (λ x. x.byte) (sym register)))
