-- Words, lists of symbols: in how many places two differ, and where.
use Rattle.std.specs.Prelude.{ℕ, suc, Bool, true, false, cond, List, [], ◌∷◌}
use Rattle.field.specs.Field.{Ops}

-- The number of places in which two words differ.
unfoldable pub distance : {F : Type 0} → Ops F → List F → List F → ℕ
distance o [] w = 0
distance o (a ∷ v) [] = 0
distance o (a ∷ v) (b ∷ w) = cond (o.same a b) (distance o v w) (suc (distance o v w))

-- The number of symbols other than zero.
unfoldable pub weight : {F : Type 0} → Ops F → List F → ℕ
weight o [] = 0
weight o (a ∷ w) = cond (o.same a o.nought) (weight o w) (suc (weight o w))

-- A place, and by how much two words differ there.
pub record Difference (F : Type 0) : Type 0 where
  pub place : ℕ
  pub amount : F

-- The list with the difference in front, unless the symbols are alike.
abbrev pub noted : {F : Type 0} → Bool → Difference F → List (Difference F) → List (Difference F)
noted true d ds = ds
noted false d ds = d ∷ ds

-- The differences of two words whose first symbols stand at place k.
unfoldable pub differences : {F : Type 0} → Ops F → ℕ → List F → List F → List (Difference F)
differences o k [] w = []
differences o k (a ∷ v) [] = []
differences o k (a ∷ v) (b ∷ w) = noted (o.same a b) (record { place = k; amount = o.sum a b }) (differences o (suc k) v w)
