use Rattle.std.proofs.Common.{◌≡◌, ◌++◌, replicate, ap, ◌∙◌, arith}
use Rattle.rack.specs.declared.kind.Kind.TheVariants.{Table}
use Rattle.lineup.specs.Kinds.{first_eight, listed}
use Rattle.lineup.proofs.Rows.{eight_same, eight_again}
use Rattle.lineup.proofs.kinds.Kinds.push_tables.Goals as goal

pub loop-init : goal.loop-init
loop-init c = let s = c.args.self.now in eight_same (listed s) s.few

pub loop-preserved : goal.loop-preserved
loop-preserved c = c.push.ensures ∙ eight_again (listed c.args.self.now) (listed c.loop.self) c.loop.counter Table c.loop.invariant

pub returns : goal.returns
returns c =
    let e : c.loop.counter ≡ c.args.n = omega arith in
    c.loop.invariant ∙ ap (λ k. first_eight (listed c.args.self.now ++ replicate k Table)) e
