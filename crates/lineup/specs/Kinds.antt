-- Kinds of dividers in a row, of which the first 8 count.
use Rattle.std.specs.Prelude.{◌≡◌, ℕ, List, ◌++◌, take}
use Rattle.rack.specs.declared.kind.Kind.{Kind}
use Rattle.lineup.specs.declared.kinds.Kinds.{Kinds}
use Rattle.lineup.specs.Plans.{Plan, Begins, dividers_of}

-- The first 8 of a list.
unfoldable pub first_eight : {A : Type 0} → List A → List A
first_eight xs = take 8 xs

-- The kinds that are held.
abbrev pub listed : Kinds → List Kind
listed k = k.kinds.items

-- A plan was read from the front of a text, and its dividers were listed behind others.
pub record Listed (n : ℕ) (text rest : List ℕ) (before after : Kinds) : Type 0 where
  pub plan : Plan
  pub begins : Begins n text rest plan
  pub kinds : listed after ≡ first_eight (listed before ++ dividers_of plan)
