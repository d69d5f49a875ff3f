-- Banks of one lane in a row.
use Rattle.std.specs.Prelude.{List, [], map, slice_index_or}
use Rattle.bank.specs.Lanes.{Lanes}

-- The lane of each bank.
unfoldable pub row : {D : Type 0} → (D → Lanes) → List D → Lanes
row lanes banks = map (λ d. slice_index_or (lanes d) 0 []) banks
