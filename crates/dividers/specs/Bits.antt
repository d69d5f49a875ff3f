-- Products in dual form, bit by bit: bit k of z·g is the trace of β^k·z·g, which is the parity of the bits of β^k·z under a mask of g.
use Rattle.std.specs.Prelude.{ℕ, zero, suc, ◌+◌, ◌*◌, ◌%◌, Bool, List, [], ◌∷◌, map, reverse, bit_and, count_ones}
use Rattle.table.specs.Computed.{tabulates}
use Rattle.power_form.specs.Arithmetic.{product, alpha_byte}
use Rattle.dual_form.specs.Dual.{trace, dual_exponents}
use Rattle.dividers.specs.Coefficients.{coefficient_byte}

-- 1 where an odd number of bits is 1, otherwise 0.
abbrev pub parity_of : ℕ → ℕ
parity_of x = count_ones x % 2

-- The number with these bits, the first the least.
abbrev pub bits_of : List ℕ → ℕ
bits_of [] = 0
bits_of (b ∷ bs) = bits_of bs * 2 + b

-- The dual basis in power form, ℓ7 first, which goes with the least bit of a dual byte.
unfoldable pub basis : List ℕ
basis = map alpha_byte (reverse dual_exponents)

-- The mask of g: its bit at the place of zj, z0 the most significant, is the trace of ℓj·g.
unfoldable pub mask_of : ℕ → ℕ
mask_of g = bits_of (map (λ l. trace (product l g)) basis)

-- The mask of β^8.
unfoldable pub incoming : ℕ
incoming = mask_of (alpha_byte (117 * 8))

-- One bit more behind those of p: the parity of the bits of z under a mask.
abbrev pub pushed_bit : ℕ → ℕ → ℕ → ℕ
pushed_bit p z mask = p % 128 * 2 + parity_of (bit_and z mask)

-- The dual byte of β·z: the bits move up one place, and the trace of β^8·z comes in.
abbrev pub beta_step : ℕ → ℕ
beta_step z = pushed_bit z z incoming

-- The bits of p and n more behind them, from z on.
unfoldable pub pushed : ℕ → ℕ → ℕ → ℕ → ℕ
pushed zero z mask p = p
pushed (suc n) z mask p = pushed n (beta_step z) mask (pushed_bit p z mask)

-- The masks are those of the 32 coefficients below the highest.
unfoldable pub masks_right : List ℕ → Bool
masks_right masks = tabulates 32 (λ k. mask_of (coefficient_byte k)) masks
