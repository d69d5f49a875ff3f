-- Each result of the arithmetic is a byte, and each exponent is below 255.
use Rattle.std.proofs.Common.{sym, subst, zero-mul, one-mul, arith, lit<}
use Rattle.std.specs.Prelude.{ℕ, zero, suc, ◌+◌, ◌-◌, ◌*◌, ◌/◌, ◌%◌, ◌<◌, ◌≤◌, true, false, ◌==◌}
use Rattle.std.proofs.lemmas.Nat.{xor_lt}
use Rattle.power_form.specs.Arithmetic.{times_alpha, alpha_byte, scaled, product, exponent_from, exponent, inverse}

pub alpha_below : (a : ℕ) → times_alpha a < 256
unfolding times_alpha
alpha_below a = xor_lt 8 ((a * 2) % 256) ((a / 128 % 2) * 0x87) (omega arith) (omega arith)

pub power_below : (n : ℕ) → alpha_byte n < 256
unfolding alpha_byte
power_below zero = lit< tt
power_below (suc n) = alpha_below (alpha_byte n)

bit_times_below : (p b : ℕ) → p < 2 → b < 256 → p * b < 256
bit_times_below zero b h below = subst (λ n. n < 256) (sym (zero-mul b)) (lit< tt)
bit_times_below (suc zero) b h below = subst (λ n. n < 256) (sym (one-mul b)) below
bit_times_below (suc (suc p)) b h below = absurd (let z : suc (suc p) < 2 = h in omega arith)

scaled_below : (k a b : ℕ) → b < 256 → scaled k a b < 256
unfolding scaled
scaled_below zero a b h = lit< tt
scaled_below (suc k) a b h =
    xor_lt 8 (a % 2 * b) (scaled k (a / 2) (times_alpha b)) (bit_times_below (a % 2) b (omega arith) h) (scaled_below k (a / 2) (times_alpha b) (alpha_below b))

pub product_below : (a b : ℕ) → b < 256 → product a b < 256
unfolding product
product_below a b h = scaled_below 8 a b h

pub inverse_below : (a : ℕ) → inverse a < 256
unfolding inverse
inverse_below a = power_below ((255 - exponent a) % 255)

exponent_from_below : (k n p a : ℕ) → exponent_from k n p a ≤ n + k
unfolding exponent_from
exponent_from_below zero n p a = omega arith
exponent_from_below (suc k) n p a =
    elim (p == a) as (λ b. (elim b [ true ↦ n | false ↦ exponent_from k (suc n) (times_alpha p) a ]) ≤ n + suc k)
    [ true ↦ omega arith | false ↦ let ih : exponent_from k (suc n) (times_alpha p) a ≤ suc n + k = exponent_from_below k (suc n) (times_alpha p) a in omega arith ]

pub exponent_below : (a : ℕ) → exponent a < 255
unfolding exponent
exponent_below a = let h = exponent_from_below 254 0 1 a in omega arith
