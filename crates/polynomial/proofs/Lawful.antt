-- The operations and laws of a kind, from the laws alone: what an answer has as `g.met.F.Field.laws`.
use Rattle.field.specs.Field.{Ops, Laws}
use Rattle.field.proofs.Ring.{Lawful}

abbrev pub lawful : {K : Type 0} {o : Ops K} → Laws o → Lawful K
lawful {o} laws = record { ops = o; laws = laws }
