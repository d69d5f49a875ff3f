-- A divider of either kind as a bank of one lane.
use Rattle.std.specs.Prelude.{[], ◌∷◌}
use Rattle.bank.specs.Lanes.{Lanes}
use Rattle.dividers.specs.Forms.{power_lane, dual_lane}
use Rattle.dividers.specs.declared.one_lane.Divider.{Divider as OneLane}
use Rattle.dividers.specs.declared.serial_divider.DualForm.{DualForm}
use Rattle.dividers.specs.declared.table_divider.PowerForm.{PowerForm}
use Rattle.rack.specs.Choices.{choice_lanes}
use Rattle.rack.specs.declared.choice.Choice.{Choice}
use Rattle.rack.specs.declared.choice.Choice.TheVariants.{First, Second}
use Rattle.rack.specs.declared.row.Row.{Row}
use Rattle.rack.specs.declared.kind.Kind.{Kind}
use Rattle.rack.specs.declared.kind.Kind.TheVariants.{Table, Serial}

-- A table divider or a bit-serial divider; and such dividers in a row.
abbrev pub Divider : Type 0
Divider = Choice (OneLane PowerForm) (OneLane DualForm)

abbrev pub Rack : Type 0
Rack = Row Divider

-- The lane of a table divider, or of a bit-serial divider.
abbrev pub divider_lanes : Divider → Lanes
divider_lanes d = choice_lanes (λ t. power_lane t.registers ∷ []) (λ s. dual_lane s.registers ∷ []) d

-- The kind of a divider.
abbrev pub kind_of : Divider → Kind
kind_of (First t) = Table
kind_of (Second s) = Serial
