use Rattle.polynomial.proofs.Lawful.{lawful}
use Rattle.polynomial.proofs.Multiples.{Left}
use Rattle.polynomial.proofs.division.add_multiple.Given as goal

abbrev pub invariant-loop-j : goal.invariant-loop-j
invariant-loop-j g l = Left (lawful g.met.F.Field.laws) l.initial.buffer l.buffer l.k l.f l.by l.j
