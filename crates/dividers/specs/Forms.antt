-- What the bytes of registers mean, in power form and in dual form.
use Rattle.std.specs.Prelude.{ℕ, List, map}
use Rattle.power_form.specs.PowerForm.{element}
use Rattle.dual_form.specs.DualForm.{symbol, power_of_dual, dual_of_power, dual_ops}
use Rattle.code.specs.Code.{telemetry}
use Rattle.generator.specs.Generator.{generator}
use Rattle.divider.specs.Registers.{moved}
use Rattle.dual_form.specs.declared.element.Dual.{Dual}

-- The symbol whose byte in power form is n.
abbrev pub in_power_form : ℕ → Dual
in_power_form n = dual_of_power (element n)

-- The byte in power form of the symbol with this dual byte.
abbrev pub power_byte : ℕ → ℕ
power_byte byte = (power_of_dual (symbol byte)).bits

-- The symbols of registers in power form.
abbrev pub power_lane : List ℕ → List Dual
power_lane registers = map in_power_form registers

-- The symbols of registers in dual form.
abbrev pub dual_lane : List ℕ → List Dual
dual_lane registers = map symbol registers

-- Registers that moved up one place, with zero below the first, once the products of f with the generator's coefficients were added.
unfoldable pub moved_up : List Dual → Dual → List Dual
moved_up rs f = moved dual_ops f dual_ops.nought rs (generator dual_ops telemetry)
