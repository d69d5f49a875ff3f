-- The dual form keeps the laws, by those of the power form.
use Rattle.std.specs.Prelude.{◌≡◌, ℕ, ◌%◌, ◌<◌, ◌==◌, bit_xor}
use Rattle.std.proofs.Common.{ap, ◌∙◌, arith}
use Rattle.std.proofs.lemmas.Nat.{xor_lt}
use Rattle.std.proofs.lemmas.Bool.Decides.{Decides-eqb, Decides-like, same_from_decides}
use mathlib.Core.HLevel.{is_prop→PathP}
use Rattle.std.proofs.Math.Bridge.{le_prop}
use Rattle.field.specs.Field.{Laws}
use Rattle.field.proofs.Carried.{carried_laws}
use Rattle.power_form.specs.PowerForm.{power_ops}
use Rattle.power_form.specs.declared.element.Power.{Power}
use Rattle.power_form.specs.PowerLaws.{power_equal, power_laws, stays}
use Rattle.dual_form.specs.DualForm.{symbol, power_of_dual, dual_of_power, dual_ops}
use Rattle.dual_form.specs.DualBasis.{DualBasis}
use Rattle.dual_form.specs.declared.element.Dual.{Dual}
use Rattle.dual_form.specs.Bytes.{of_to, to_of, dual_sum, trace_pairs, trace_parity}

-- Two elements with the same byte are the same.
pub dual_equal : {x y : Dual} → x.byte ≡ y.byte → x ≡ y
dual_equal {x} {y} e = λ i. record { byte = e i; small = is_prop→PathP (λ k. e k < 256) (λ k. le_prop) x.small y.small i }

pub back : (p : Power) → power_of_dual (dual_of_power p) ≡ p
back p = power_equal (of_to p.bits p.byte)

pub forth : (x : Dual) → dual_of_power (power_of_dual x) ≡ x
forth x = dual_equal (to_of x.byte x.small)

pub dual_laws : Laws dual_ops
dual_laws = carried_laws power_ops dual_of_power power_of_dual back power_laws forth

-- An element is the one with its byte.
pub symbol_of : (x : Dual) (n : ℕ) → x.byte ≡ n → x ≡ symbol n
symbol_of x n e = let same : x.byte ≡ n % 256 = omega (arith, x.small) in dual_equal same

-- Two elements are the same exactly where their bytes are.
pub dual_same : (x y : Dual) → (x.byte == y.byte) ≡ dual_ops.same x y
dual_same x y = same_from_decides (x.byte == y.byte) (dual_ops.same x y) (Decides-like (x.byte == y.byte) dual_equal (ap (λ (d : Dual). d.byte)) (Decides-eqb x.byte y.byte)) (dual_laws.sameness x y)

-- The byte of a sum is the sum of the bytes.
pub symbol_sum : (x y : Dual) → symbol (bit_xor x.byte y.byte) ≡ dual_ops.sum x y
symbol_sum x y = dual_equal (stays _ (xor_lt 8 x.byte y.byte x.small y.small) ∙ dual_sum x.byte y.byte x.small y.small)

pub dual_basis : DualBasis
dual_basis = record { back = back; forth = forth; pairs = trace_pairs; parity = trace_parity }
