use Rattle.std.proofs.Common.{◌≡◌}
use Rattle.correction.proofs.recurrence.Shortest.of.Given as goal

abbrev pub invariant-loop : goal.invariant-loop
invariant-loop g l = (l.found.places ≡ l.counter) × (l.found.sequence ≡ l.initial.found.sequence)
