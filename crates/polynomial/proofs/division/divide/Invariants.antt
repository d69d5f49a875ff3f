use Rattle.polynomial.proofs.Lawful.{lawful}
use Rattle.polynomial.proofs.Turns.{Partly}
use Rattle.polynomial.proofs.division.divide.Given as goal

abbrev pub invariant-loop-k : goal.invariant-loop-k
invariant-loop-k g l = Partly (lawful g.met.F.Field.laws) l.initial.buffer l.by l.m l.k l.buffer
