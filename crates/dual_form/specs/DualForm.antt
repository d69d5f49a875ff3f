-- The operations of the dual form: those of the power form, carried over.
use Rattle.std.specs.Prelude.{ℕ, ◌%◌}
use Rattle.field.specs.Field.{Ops, carried}
use Rattle.power_form.specs.PowerForm.{byte_below, element, power_ops}
use Rattle.power_form.specs.declared.element.Power.{Power}
use Rattle.dual_form.specs.Dual.{to_dual, of_dual}
use Rattle.dual_form.specs.declared.element.Dual.{Dual}

-- The element with the dual byte n.
abbrev pub symbol : ℕ → Dual
symbol n = record { byte = n % 256; small = byte_below n }

abbrev pub power_of_dual : Dual → Power
power_of_dual x = element (of_dual x.byte)

abbrev pub dual_of_power : Power → Dual
dual_of_power p = symbol (to_dual p.bits)

abbrev pub dual_ops : Ops Dual
dual_ops = carried power_ops dual_of_power power_of_dual
