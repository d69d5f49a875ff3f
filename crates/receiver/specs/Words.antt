-- Words as bytes in the order in which they are sent, and in power form.
use Rattle.std.specs.Prelude.{ℕ, List, map}
use Rattle.code.specs.Code.{of_symbols}
use Rattle.power_form.specs.declared.element.Power.{Power}
use Rattle.dual_form.specs.DualForm.{symbol, power_of_dual}
use Rattle.dual_form.specs.declared.element.Dual.{Dual}

-- The word C_0, C_1 and so on of bytes, the last of which is that of C_0.
unfoldable pub word_of : List ℕ → List Dual
word_of bytes = of_symbols (map symbol bytes)

-- The same in power form.
unfoldable pub power_word_of : List ℕ → List Power
power_word_of bytes = map power_of_dual (word_of bytes)
