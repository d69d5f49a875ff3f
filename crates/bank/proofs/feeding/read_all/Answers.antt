use Rattle.std.proofs.Common.{[], get_or, arith}
use Rattle.std.proofs.lemmas.List.{length-set}
use Rattle.bank.proofs.Held.{told_read, read_more}
use Rattle.bank.proofs.feeding.read_all.Goals as goal

pub loop-place-preserved : goal.loop-place-preserved
loop-place-preserved g c =
    let ls = g.B.Bank.lanes c.args.bank.now in
    let told = told_read ls c.args.lane c.loop-place.place c.in_ok-byte.field-0 c.read.result c.read.ensures c.in_ok-byte.was (omega arith) in
    let wide = (g.met.B.Bank.shape c.args.bank.now).wide c.args.lane told.0 in
    record {
      long = simp length-set c.loop-place.invariant.long;
      there = λ h. told.0;
      read = read_more c.loop-place.byte-items (get_or ls c.args.lane []) c.loop-place.place _ (omega arith) (omega arith) c.loop-place.invariant.read told.1;
    }
