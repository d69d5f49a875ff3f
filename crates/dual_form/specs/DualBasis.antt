-- What the dual basis is to β, and the trace in one step.
use Rattle.std.specs.Prelude.{◌≡◌, cond, ℕ, ◌*◌, ◌%◌, ◌<◌, eqb, get_or}
use Rattle.std.specs.Int.Bits.{bit_and}
use Rattle.std.specs.Int.Count.{ones}
use Rattle.power_form.specs.Arithmetic.{product, alpha_byte}
use Rattle.power_form.specs.declared.element.Power.{Power}
use Rattle.dual_form.specs.Dual.{trace, dual_exponents}
use Rattle.dual_form.specs.DualForm.{power_of_dual, dual_of_power}
use Rattle.dual_form.specs.declared.element.Dual.{Dual}

pub record DualBasis : Type 0 where
  -- the sum of the basis elements undoes the traces, and the traces undo the sum
  pub back : (p : Power) → power_of_dual (dual_of_power p) ≡ p
  pub forth : (x : Dual) → dual_of_power (power_of_dual x) ≡ x
  -- the trace of β^i·ℓj is 1 exactly when i = j
  pub pairs : (i j : ℕ) → i < 8 → j < 8 → trace (product (alpha_byte (117 * i)) (alpha_byte (get_or dual_exponents j 0))) ≡ cond (eqb i j) 1 0
  -- the trace of u is the parity of u AND FE
  pub parity : (u : ℕ) → u < 256 → trace u ≡ ones (bit_and u 0xfe) % 2
