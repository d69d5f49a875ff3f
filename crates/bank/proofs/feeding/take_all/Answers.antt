use Rattle.std.proofs.Common.{◌<◌, ◌≤◌, length, sym, ap, ◌∙◌, arith}
use Rattle.std.proofs.lemmas.List.{set_past, take_all}
use Rattle.std.proofs.lemmas.Bool.{lt-ltb, le-ltb}
use Rattle.bank.specs.Lanes.{all_fed}
use Rattle.bank.proofs.Taken.{fed_none, fed_more}
use Rattle.bank.proofs.feeding.take_all.Goals as goal

pub returns-then-lane-count : goal.returns-then-lane-count
returns-then-lane-count g c =
    let past : length (g.B.Bank.lanes c.args.bank.now) ≤ c.args.lane = omega arith in
    record { answer = rw (le-ltb _ _ past); after = sym (set_past _ _ _ past) }

pub loop-byte-init : goal.loop-byte-init
loop-byte-init g c = fed_none _ _

pub loop-byte-preserved : goal.loop-byte-preserved
loop-byte-preserved g c =
    c.take.ensures.after
    ∙ fed_more (g.B.Bank.lanes c.args.bank.now) _ c.args.lane c.args.bytes.now c.loop-byte.byte-index (omega arith) (omega arith) c.loop-byte.invariant

pub returns : goal.returns
returns g c =
    let there : c.args.lane < length (g.B.Bank.lanes c.args.bank.now) = omega arith in
    record {
      answer = rw (lt-ltb _ _ there);
      after = c.loop-byte.invariant ∙ ap (all_fed (g.B.Bank.lanes c.args.bank.now) c.args.lane) (take_all c.loop-byte.byte-index c.args.bytes.now (omega arith));
    }
