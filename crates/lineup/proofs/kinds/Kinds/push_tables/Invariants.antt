use Rattle.std.proofs.Common.{◌≡◌, ◌++◌, replicate}
use Rattle.rack.specs.declared.kind.Kind.TheVariants.{Table}
use Rattle.lineup.specs.Kinds.{first_eight, listed}
use Rattle.lineup.proofs.kinds.Kinds.push_tables.Given as goal

abbrev pub invariant-loop : goal.invariant-loop
invariant-loop l = listed l.self ≡ first_eight (listed l.initial.self ++ replicate l.counter Table)
