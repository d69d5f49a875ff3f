-- The trace of a product is a parity: that of the bits of a dual byte under a mask.
use Rattle.std.proofs.Common.{◌≡◌, ℕ, zero, suc, ◌+◌, ◌*◌, ◌/◌, ◌%◌, ◌<◌, min, List, [], ◌∷◌, map, sym, refl, ap, ◌∙◌, ap₂, one-mul, zero-add, zero-mul, arith}
use lib.Bits.{bit_xor, bit_and, and_step, and_zero_r, xor_assoc, xor_self}
use lib.Count.{ones, ones_step}
use Rattle.table.proofs.Tests.{agree}
use Rattle.power_form.specs.Arithmetic.{times_alpha, alpha_byte, product}
use Rattle.power_form.specs.Bounds.{product_below}
use Rattle.power_form.specs.ByteLaws.{product_comm}
use Rattle.power_form.specs.Linear.{Additive, at_zero}
use Rattle.power_form.specs.Products.{left_keeps, right_keeps, swap_middle}
use Rattle.dual_form.specs.Dual.{squares, trace, dual_exponents, basis_sum, of_dual}
use Rattle.dual_form.specs.Bytes.{trace_parity}
use Rattle.dividers.specs.Bits.{parity_of, bits_of, basis, mask_of}
use Rattle.dividers.specs.Forms.{power_byte}

-- ---- the trace keeps sums

square_keeps : (a b : ℕ) → a < 256 → b < 256 → product (bit_xor a b) (bit_xor a b) ≡ bit_xor (product a a) (product b b)
square_keeps a b ha hb =
    left_keeps (bit_xor a b) a b
    ∙ ap₂ bit_xor (right_keeps a a b) (right_keeps b a b ∙ ap (λ x. bit_xor x (product b b)) (product_comm b a hb ha))
    ∙ cancel (product a a) (product a b) (product b b)
  where
    cancel : (x y z : ℕ) → bit_xor (bit_xor x y) (bit_xor y z) ≡ bit_xor x z
    cancel x y z = xor_assoc x y (bit_xor y z) ∙ ap (bit_xor x) (sym (xor_assoc y y z) ∙ ap (λ w. bit_xor w z) (xor_self y))

squares_keep : (k a b : ℕ) → a < 256 → b < 256 → squares k (bit_xor a b) ≡ bit_xor (squares k a) (squares k b)
unfolding squares
squares_keep zero a b ha hb = refl
squares_keep (suc k) a b ha hb =
    ap (bit_xor (bit_xor a b)) (ap (squares k) (square_keeps a b ha hb) ∙ squares_keep k (product a a) (product b b) (product_below a a ha) (product_below b b hb))
    ∙ swap_middle a b (squares k (product a a)) (squares k (product b b))

pub trace_keeps : (a b : ℕ) → a < 256 → b < 256 → trace (bit_xor a b) ≡ bit_xor (trace a) (trace b)
unfolding trace
trace_keeps a b ha hb = squares_keep 8 a b ha hb

-- The trace is 0 or 1.
pub trace_bit : (a : ℕ) → a < 256 → trace a < 2
trace_bit a h = let e = trace_parity a h in omega arith

times_trace : (g : ℕ) → g < 256 → Additive (λ a. trace (product a g))
times_trace g h a b = ap trace (left_keeps g a b) ∙ trace_keeps (product a g) (product b g) (product_below a g h) (product_below b g h)

-- ---- sums of columns

-- The sum of those columns whose bit of z is 1, the first at the least bit.
unfoldable columns : List ℕ → ℕ → ℕ
columns [] z = 0
columns (l ∷ ls) z = bit_xor (z % 2 * l) (columns ls (z / 2))

-- The element of a dual byte is such a sum.
power_columns : (z : ℕ) → z < 256 → power_byte z ≡ columns basis z
unfolding times_alpha alpha_byte dual_exponents basis_sum of_dual basis columns
power_columns = agree 256 power_byte (columns basis) tt

bit_out : (h : ℕ → ℕ) → Additive h → (b c : ℕ) → b < 2 → h (b * c) ≡ b * h c
bit_out h keeps zero c l = ap h (zero-mul c) ∙ at_zero h keeps ∙ sym (zero-mul (h c))
bit_out h keeps (suc zero) c l = ap h (one-mul c) ∙ sym (one-mul (h c))
bit_out h keeps (suc (suc b)) c l = absurd (let z : suc (suc b) < 2 = l in omega arith)

-- A function that keeps sums, at a sum of columns.
spread : (h : ℕ → ℕ) → Additive h → (ls : List ℕ) (z : ℕ) → h (columns ls z) ≡ columns (map h ls) z
unfolding columns
spread h keeps [] z = at_zero h keeps
spread h keeps (l ∷ ls) z =
    keeps (z % 2 * l) (columns ls (z / 2)) ∙ ap₂ bit_xor (bit_out h keeps (z % 2) l (omega arith)) (spread h keeps ls (z / 2))

-- ---- sums of bits

odd : (c n : ℕ) → c < 2 → bit_xor c (n % 2) ≡ (c + n) % 2
odd zero n l = ap (λ m. m % 2) (sym (zero-add n))
odd (suc zero) n l = two (n % 2) (omega arith) ∙ omega arith
  where
    two : (r : ℕ) → r < 2 → bit_xor 1 r ≡ (1 + r) % 2
    two zero h = refl
    two (suc zero) h = refl
    two (suc (suc r)) h = absurd (let z : suc (suc r) < 2 = h in omega arith)
odd (suc (suc c)) n l = absurd (let z : suc (suc c) < 2 = l in omega arith)

both_bits : (a b : ℕ) → a < 2 → b < 2 → a * b ≡ min a b
both_bits zero b ha hb = zero-mul b ∙ omega arith
both_bits (suc zero) zero ha hb = refl
both_bits (suc zero) (suc zero) ha hb = refl
both_bits (suc zero) (suc (suc b)) ha hb = absurd (let z : suc (suc b) < 2 = hb in omega arith)
both_bits (suc (suc a)) b ha hb = absurd (let z : suc (suc a) < 2 = ha in omega arith)

-- The sum of a mask's bits at the bits of a byte is the parity of the bits that the two share.
shared : (h : ℕ → ℕ) → ((l : ℕ) → h l < 2) → (ls : List ℕ) (z : ℕ) → columns (map h ls) z ≡ parity_of (bit_and z (bits_of (map h ls)))
unfolding columns ones
shared h bit [] z = sym (ap (λ n. ones n % 2) (and_zero_r z))
shared h bit (l ∷ ls) z =
    let more = bits_of (map h ls) in
    let b = h l in
    let rest = bit_and (z / 2) more in
    let hb : b < 2 = bit l in
    let halves : (more * 2 + b) / 2 ≡ more = omega arith in
    let low : (more * 2 + b) % 2 ≡ b = omega arith in
    let c : ℕ = min (z % 2) b in
    let and : bit_and z (more * 2 + b) ≡ rest * 2 + c = and_step z (more * 2 + b) ∙ ap₂ (λ m n. bit_and (z / 2) m * 2 + min (z % 2) n) halves low in
    let small : c < 2 = omega arith in
    let count : ones (rest * 2 + c) ≡ c + ones rest = ones_step (rest * 2 + c) ∙ ap₂ (λ m n. m + ones n) (omega arith) (omega arith) in
    ap₂ bit_xor (both_bits (z % 2) b (omega arith) hb) (shared h bit ls (z / 2))
    ∙ odd c (ones rest) small
    ∙ sym (ap (λ n. ones n % 2) and ∙ ap (λ n. n % 2) count)

-- The trace of z·g, for a dual byte z, is the parity of the bits of z under the mask of g.
pub trace_mask : (z g : ℕ) → z < 256 → g < 256 → trace (product (power_byte z) g) ≡ parity_of (bit_and z (mask_of g))
unfolding mask_of
trace_mask z g hz hg =
    ap (λ a. trace (product a g)) (power_columns z hz)
    ∙ spread (λ a. trace (product a g)) (times_trace g hg) basis z
    ∙ shared (λ l. trace (product l g)) (λ l. trace_bit (product l g) (product_below l g hg)) basis z
