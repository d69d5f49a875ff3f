use Rattle.std.proofs.Common.{is_ok, ap, arith}
use Rattle.std.proofs.ResultArms.{chosen}
use Rattle.spelling.proofs.Commas.{write_more}
use Rattle.spelling.proofs.list.write_list.Goals as goal

pub loop-item-preserved : goal.loop-item-preserved
loop-item-preserved g c =
    write_more g.S.Spelled.written _ _ c.item-item.result _ _ _ _ _ c.loop-item-test.true c.item-item.is c.loop-item.invariant
    (c.push-in-loop-item.ensures.ascii (omega arith))
    (chosen _ _ _ _ c.push-in-loop-item.ensures.bytes (ap is_ok c.in_ok-push-in-len1-up.was))
    c.in_ok-write-in-len1-up-2.ensures
