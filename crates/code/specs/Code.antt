-- The code: its numbers, its roots and its codewords, over any kind of field element.
use Rattle.std.specs.Prelude.{◌≡◌, List, reverse, ℕ, ◌+◌, length}
use Rattle.field.specs.Field.{Ops, power, alpha_power}
use Rattle.field.specs.Polynomial.{Vanishes}

-- The numbers of a code: the symbols of a codeword, as many as α has powers; the exponent of γ, a power of α; the exponent of the
-- first root, a power of γ; and the number of roots, which is the number of check symbols.
pub record Code : Type 0 where
  pub symbols : ℕ
  pub step : ℕ
  pub first : ℕ
  pub checks : ℕ

-- The (255,223) code: γ = α^11, and the roots are γ^112 to γ^143.
abbrev pub telemetry : Code
telemetry = record { symbols = 255; step = 11; first = 112; checks = 32 }

-- γ to the power j.
abbrev pub gamma_power : {F : Type 0} → Ops F → Code → ℕ → F
gamma_power o c j = power o (alpha_power o c.step) j

-- The root with the number k, from 0.
abbrev pub root : {F : Type 0} → Ops F → Code → ℕ → F
root o c k = gamma_power o c (c.first + k)

-- The polynomial of symbols in the order in which they are sent: the first belongs to the highest power.
abbrev pub of_symbols : {F : Type 0} → List F → List F
of_symbols symbols = reverse symbols

-- A codeword C_0, C_1 and so on: a polynomial, lowest power first, that is zero at every root.
pub record Codeword {F : Type 0} (o : Ops F) (c : Code) (word : List F) : Type 0 where
  pub long : length word ≡ c.symbols
  pub zero_at_roots : Vanishes o (root o c) c.checks word
