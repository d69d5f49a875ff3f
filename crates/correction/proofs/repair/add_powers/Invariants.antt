use Rattle.std.proofs.Common.{◌≡◌}
use Rattle.field.specs.Field.{power}
use Rattle.polynomial.proofs.Lawful.{lawful}
use Rattle.correction.proofs.Rows.{Changed}
use Rattle.correction.proofs.repair.add_powers.Given as goal

abbrev pub invariant-loop-syndrome : goal.invariant-loop-syndrome
invariant-loop-syndrome g l =
    let o = g.F.Field.ops in
    Changed (lawful g.met.F.Field.laws) (λ k a. o.sum a (o.product l.initial.term (power o l.x k))) l.initial.syndromes l.syndromes l.syndrome-index
    × (l.term ≡ o.product l.initial.term (power o l.x l.syndrome-index))
