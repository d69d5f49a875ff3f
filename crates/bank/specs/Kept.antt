-- The copy of a holder.
use Rattle.bank.specs.Lanes.{Lanes, held}
use Rattle.bank.specs.declared.holder.Holder.{Holder}

-- What a holder keeps beside the lanes of its bank: as many lanes of its copy.
abbrev pub kept : {B : Type 0} → (B → Lanes) → Holder B → Lanes
kept lanes h = held (lanes h.bank) h.copy
