use Rattle.std.proofs.Common.{◌≡◌, ◌+◌, ◌*◌, get_or, Some, sym, ap, ◌∙◌, rules}
use Rattle.block.specs.Lanes.{lane}
use Rattle.block.proofs.Arrays.{array_made}
use Rattle.block.proofs.Places.{lane_there}
use Rattle.block.proofs.depth.Block.lane.Goals as goal

pub returns : goal.returns
unfolding lane
returns c =
    let d = c.args.self.now.depth.lanes in
    let bytes = c.args.self.now.bytes.now in
    let made : c.from_fn.result ≡ lane 255 d bytes c.args.lane =
    array_made _ _ (λ i. get_or bytes (i * d + c.args.lane) 0) 255 (λ i y q h called. search rules) c.from_fn.result 0 c.from_fn.ensures.items in
    ap Some made ∙ sym (lane_there d bytes c.args.lane c.if-lane-self.false)
