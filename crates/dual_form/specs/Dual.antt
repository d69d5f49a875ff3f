-- The dual form: the traces of an element times the powers of β, and the dual basis, which leads back.
use Rattle.std.specs.Prelude.{List, [], ◌∷◌, ℕ, zero, suc, ◌+◌, ◌*◌, ◌/◌, ◌%◌, ◌^◌, length}
use Rattle.std.specs.Int.Bits.{bit_xor}
use Rattle.power_form.specs.Arithmetic.{product, alpha_byte}

-- The sum of a, a^2, a^4 and so on, k terms.
unfoldable pub squares : ℕ → ℕ → ℕ
squares zero a = 0
squares (suc k) a = bit_xor a (squares k (product a a))

-- The trace: a + a^2 + a^4 + a^8 + a^16 + a^32 + a^64 + a^128, which is 0 or 1.
unfoldable pub trace : ℕ → ℕ
trace a = squares 8 a

-- β is α^117.
unfoldable pub beta : ℕ
beta = alpha_byte 117

-- The bits so far, and behind them k more: the trace of a, of β·a, of β^2·a and so on.
unfoldable pub dual_bits : ℕ → ℕ → ℕ → ℕ
dual_bits zero bits a = bits
dual_bits (suc k) bits a = dual_bits k (bits * 2 + trace a) (product beta a)

-- The dual byte of an element: z0 to z7, z0 the most significant, where zi is the trace of β^i·a.
unfoldable pub to_dual : ℕ → ℕ
to_dual a = dual_bits 8 0 a

-- The exponents of the dual basis ℓ0 to ℓ7.
unfoldable pub dual_exponents : List ℕ
dual_exponents = 125 ∷ 88 ∷ 226 ∷ 163 ∷ 46 ∷ 184 ∷ 67 ∷ 242 ∷ []

-- The sum of those powers of α whose bit of z is 1: the last goes with bit 0, the one before it with bit 1, and so on.
unfoldable pub basis_sum : List ℕ → ℕ → ℕ
basis_sum [] z = 0
basis_sum (e ∷ es) z = bit_xor (z / 2 ^ length es % 2 * alpha_byte e) (basis_sum es z)

-- The element of a dual byte: the sum of those ℓi whose zi is 1.
unfoldable pub of_dual : ℕ → ℕ
of_dual z = basis_sum dual_exponents z
