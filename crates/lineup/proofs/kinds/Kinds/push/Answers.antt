use Rattle.lineup.proofs.Rows.{eight_tried}
use Rattle.lineup.proofs.kinds.Kinds.push.Goals as goal

pub returns : goal.returns
returns c =
    let t = c.try_push.ensures in
    eight_tried c.try_push.result c.args.self.now.kinds c.try_push.new.self c.args.kind t.variant.0 t.ok t.err t.full
