use Rattle.std.proofs.Common.{◌≡◌, map, length, take, replicate}
use Rattle.bank.specs.Lanes.{zeros}
use Rattle.rack.specs.Dividers.{divider_lanes, kind_of}
use Rattle.rack.specs.Rows.{row}
use Rattle.rack.proofs.making.Row+Divider.new.Given as goal

abbrev pub invariant-loop-kind : goal.invariant-loop-kind
invariant-loop-kind l = record {
  long : length l.banks.items ≡ l.kind-index;
  lanes : row divider_lanes l.banks.items ≡ replicate l.kind-index zeros;
  kinds : map kind_of l.banks.items ≡ take l.kind-index l.kinds;
}
