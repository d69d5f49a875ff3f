-- The product keeps sums on either side.
use Rattle.std.specs.Prelude.{◌≡◌, ℕ, zero, suc, ◌*◌, ◌/◌, ◌%◌, ◌^◌, ◌<◌, bit_xor, refl}
use Rattle.std.proofs.Common.{sym, ap, ap₂, ◌∙◌, add-zero, zero-mul, one-mul, arith}
use Rattle.std.specs.Int.Bits.{xor_self, xor_assoc, xor_zero_r}
use Rattle.std.proofs.lemmas.Nat.{pow_pos, xor_comm, xor_mod, xor_shr, xor_block}
use Rattle.power_form.specs.Arithmetic.{times_alpha, scaled, product}
use Rattle.power_form.specs.Linear.{Additive}

-- a * 2^k keeps sums
shl_keeps : (k a b : ℕ) → bit_xor a b * 2 ^ k ≡ bit_xor (a * 2 ^ k) (b * 2 ^ k)
shl_keeps k a b = sym (ap₂ bit_xor (sym (add-zero (a * 2 ^ k))) (sym (add-zero (b * 2 ^ k))) ∙ xor_block k a b 0 0 (pow_pos k) (pow_pos k) ∙ add-zero (bit_xor a b * 2 ^ k))

-- two sums of two sums
pub swap_middle : (a b c d : ℕ) → bit_xor (bit_xor a b) (bit_xor c d) ≡ bit_xor (bit_xor a c) (bit_xor b d)
swap_middle a b c d =
    xor_assoc a b (bit_xor c d)
    ∙ ap (bit_xor a) (sym (xor_assoc b c d) ∙ ap (λ x. bit_xor x d) (xor_comm b c) ∙ xor_assoc c b d)
    ∙ sym (xor_assoc a c (bit_xor b d))

pub bit_keeps : (c p q : ℕ) → p < 2 → q < 2 → bit_xor p q * c ≡ bit_xor (p * c) (q * c)
bit_keeps c zero q hp hq = ap (λ z. bit_xor z (q * c)) (sym (zero-mul c))
bit_keeps c (suc zero) zero hp hq = sym (ap (bit_xor (1 * c)) (zero-mul c) ∙ xor_zero_r (1 * c))
bit_keeps c (suc zero) (suc zero) hp hq = zero-mul c ∙ sym (xor_self (1 * c))
bit_keeps c (suc zero) (suc (suc q)) hp hq = absurd (let z : suc (suc q) < 2 = hq in omega arith)
bit_keeps c (suc (suc p)) q hp hq = absurd (let z : suc (suc p) < 2 = hp in omega arith)

factor_keeps : (p b c : ℕ) → p < 2 → p * bit_xor b c ≡ bit_xor (p * b) (p * c)
factor_keeps zero b c h = zero-mul (bit_xor b c) ∙ sym (ap₂ bit_xor (zero-mul b) (zero-mul c))
factor_keeps (suc zero) b c h = one-mul (bit_xor b c) ∙ sym (ap₂ bit_xor (one-mul b) (one-mul c))
factor_keeps (suc (suc p)) b c h = absurd (let z : suc (suc p) < 2 = h in omega arith)

pub alpha_keeps : Additive times_alpha
unfolding times_alpha
alpha_keeps a b =
    ap₂ bit_xor
    (ap (λ z. z % 2 ^ 8) (shl_keeps 1 a b) ∙ xor_mod (a * 2) (b * 2) 8)
    (ap (λ z. z % 2 * 0x87) (xor_shr a b 7) ∙ ap (λ z. z * 0x87) (xor_mod (a / 128) (b / 128) 1)
    ∙ bit_keeps 0x87 (a / 128 % 2) (b / 128 % 2) (omega arith) (omega arith))
    ∙ swap_middle ((a * 2) % 256) ((b * 2) % 256) ((a / 128 % 2) * 0x87) ((b / 128 % 2) * 0x87)

pub scaled_keeps_left : (k a b c : ℕ) → scaled k (bit_xor a b) c ≡ bit_xor (scaled k a c) (scaled k b c)
unfolding scaled
scaled_keeps_left zero a b c = refl
scaled_keeps_left (suc k) a b c =
    ap₂ bit_xor
    (ap (λ z. z * c) (xor_mod a b 1) ∙ bit_keeps c (a % 2) (b % 2) (omega arith) (omega arith))
    (ap (λ z. scaled k z (times_alpha c)) (xor_shr a b 1) ∙ scaled_keeps_left k (a / 2) (b / 2) (times_alpha c))
    ∙ swap_middle (a % 2 * c) (b % 2 * c) (scaled k (a / 2) (times_alpha c)) (scaled k (b / 2) (times_alpha c))

pub scaled_keeps_right : (k a b c : ℕ) → scaled k a (bit_xor b c) ≡ bit_xor (scaled k a b) (scaled k a c)
unfolding scaled
scaled_keeps_right zero a b c = refl
scaled_keeps_right (suc k) a b c =
    ap₂ bit_xor
    (factor_keeps (a % 2) b c (omega arith))
    (ap (scaled k (a / 2)) (alpha_keeps b c) ∙ scaled_keeps_right k (a / 2) (times_alpha b) (times_alpha c))
    ∙ swap_middle (a % 2 * b) (a % 2 * c) (scaled k (a / 2) (times_alpha b)) (scaled k (a / 2) (times_alpha c))

pub left_keeps : (c : ℕ) → Additive (λ a. product a c)
unfolding product
left_keeps c a b = scaled_keeps_left 8 a b c

pub right_keeps : (a : ℕ) → Additive (product a)
unfolding product
right_keeps a b c = scaled_keeps_right 8 a b c
