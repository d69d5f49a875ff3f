use Rattle.std.proofs.Common.{◌≡◌, ◌<◌, [], map, length, get_or, take}
use Rattle.bank.proofs.feeding.read_all.Given as goal

abbrev pub invariant-loop-place : goal.invariant-loop-place
invariant-loop-place g l = record {
  long : length l.byte-items ≡ 32;
  there : 0 < l.place → l.lane < length (g.B.Bank.lanes l.bank);
  read : take l.place l.byte-items ≡ take l.place (map (λ x. x.byte) (get_or (g.B.Bank.lanes l.bank) l.lane []));
}
