use Rattle.std.proofs.Common.{◌≡◌, ◌++◌, length, vec_items}
use Rattle.spelling.proofs.Commas.{heads}
use Rattle.spelling.proofs.list.read_list.Given as goal

abbrev pub invariant-loop-first : goal.invariant-loop-first
invariant-loop-first g l = heads g.S.Spelled.written (vec_items l.out) ++ l.rest.text.now ≡ l.initial.rest.text.now

abbrev pub decreases-loop-first : goal.decreases-loop-first
decreases-loop-first g l = length l.rest.text.now
