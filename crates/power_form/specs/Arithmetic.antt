-- Arithmetic of the field of 256 elements on bytes: bit i of a byte, bit 0 the least, is the coefficient of α^i,
-- and α is a root of x^8 + x^7 + x^2 + x + 1.
use Rattle.std.specs.Prelude.{ℕ, zero, suc, ◌-◌, ◌*◌, ◌/◌, ◌%◌, true, false, ◌==◌, bit_xor}

-- α times an element: each bit moves up, and bit 7 comes back as α^8 = α^7 + α^2 + α + 1, in hexadecimal 87.
unfoldable pub times_alpha : ℕ → ℕ
times_alpha a = bit_xor ((a * 2) % 256) ((a / 128 % 2) * 0x87)

-- The byte of α^n.
unfoldable pub alpha_byte : ℕ → ℕ
alpha_byte zero = 1
alpha_byte (suc n) = times_alpha (alpha_byte n)

-- The sum of the first k coefficients of a, each times its power of α times b.
unfoldable pub scaled : ℕ → ℕ → ℕ → ℕ
scaled zero a b = 0
scaled (suc k) a b = bit_xor (a % 2 * b) (scaled k (a / 2) (times_alpha b))

-- The product of two elements.
unfoldable pub product : ℕ → ℕ → ℕ
product a b = scaled 8 a b

-- The first of the exponents n, n + 1 and so on whose power of α is a, where p is α^n; n + k where none before it is.
unfoldable pub exponent_from : ℕ → ℕ → ℕ → ℕ → ℕ
exponent_from zero n p a = n
exponent_from (suc k) n p a = elim (p == a) [ true ↦ n | false ↦ exponent_from k (suc n) (times_alpha p) a ]

-- The n below 255 for which α^n is a, an element other than zero.
unfoldable pub exponent : ℕ → ℕ
exponent a = exponent_from 254 0 1 a

-- The reciprocal of an element other than zero.
unfoldable pub inverse : ℕ → ℕ
inverse a = alpha_byte ((255 - exponent a) % 255)
