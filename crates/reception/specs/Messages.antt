-- The message of a block: the symbols of its lanes but for the checks, as they are sent.
use Rattle.std.specs.Prelude.{ℕ, zero, suc, ◌+◌, ◌-◌, ◌*◌, ◌/◌, ◌%◌, List, map}
use Rattle.std.specs.List.{range_with_len}
use Rattle.polynomial.specs.Coefficients.{coeff}
use Rattle.code.specs.Code.{telemetry}
use Rattle.dual_form.specs.DualForm.{dual_ops}
use Rattle.dual_form.specs.declared.element.Dual.{Dual}

-- The bytes of a message: the symbols of a codeword that are no checks, for each lane.
abbrev pub message_length : ℕ → ℕ
message_length d = (telemetry.symbols - telemetry.checks) * d

-- The message of words, C_0 first, one for each of d lanes: byte m is the symbol with the index 254 - m / d of the lane m mod d.
unfoldable pub message_of : ℕ → (ℕ → List Dual) → List ℕ
message_of d words = map (λ m. (coeff dual_ops (words (m % d)) (telemetry.symbols - 1 - m / d)).byte) (range_with_len 0 (message_length d))

-- The sum of f 0 to f (n - 1).
unfoldable pub total : ℕ → (ℕ → ℕ) → ℕ
total zero f = 0
total (suc n) f = total n f + f n
