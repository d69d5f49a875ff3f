use Rattle.std.proofs.Common.{◌-◌, length, ap, arith}
use Rattle.std.proofs.lemmas.List.{length-take}
use Rattle.lineup.proofs.Assembled.{lanes_beside}
use Rattle.lineup.proofs.building.assembled.Goals as goal

pub returns-in_ok-right-in-len1-up : goal.returns-in_ok-right-in-len1-up
returns-in_ok-right-in-len1-up c =
    let k = c.args.kinds.now in
    let xs = c.as_slice.result.now in
    lanes_beside _ (length k.kinds.items) c.in_ok-left-in-len1-up.left c.in_ok-right-in-len1-up.right c.new-in-len1-up-3.result
    (omega (arith, ap length c.as_slice.ensures.value, length-take (length xs - 1) xs)) (omega (arith, k.few)) c.in_ok-left-in-len1-up.ensures.0 c.in_ok-right-in-len1-up.ensures.0
    c.new-in-len1-up-3.ensures.left c.new-in-len1-up-3.ensures.right
