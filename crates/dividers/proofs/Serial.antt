-- Eight bits of a product, formed one after another, are its dual byte.
use Rattle.std.proofs.Common.{◌≡◌, ℕ, zero, suc, ◌+◌, ◌-◌, ◌*◌, ◌%◌, ◌^◌, ◌<◌, ◌≤◌, true, List, get_or, sym, refl, ap, ◌∙◌, ap₂, pow-suc, arith, lit<, pow_mono}
use lib.Bits.{bit_and}
use lib.Count.{ones, ones_in}
use Rattle.table.proofs.Tests.{agree, tabulated}
use Rattle.power_form.specs.Arithmetic.{times_alpha, alpha_byte, scaled, product}
use Rattle.power_form.specs.Bounds.{power_below}
use Rattle.power_form.specs.ByteLaws.{product_assoc}
use Rattle.dual_form.specs.Dual.{squares, trace, beta, dual_bits, to_dual, dual_exponents, basis_sum, of_dual}
use Rattle.dual_form.specs.DualForm.{power_of_dual, symbol}
use Rattle.dividers.specs.Bits.{parity_of, basis, mask_of, incoming, pushed_bit, beta_step, pushed, masks_right}
use Rattle.dividers.specs.Coefficients.{coefficient_byte}
use Rattle.dividers.specs.Forms.{power_byte}
use Rattle.dividers.specs.CoefficientsLemmas.{coefficient_below}
use Rattle.dividers.proofs.Masks.{trace_mask}

-- The mask of β^8, computed.
pub incoming_is : incoming ≡ 0xd1
unfolding times_alpha alpha_byte scaled product squares trace dual_exponents basis mask_of incoming
incoming_is = refl

beta_below : beta < 256
unfolding beta
beta_below = power_below 117

-- The step from z to β·z, at each of the 256 dual bytes.
beta_computed : (z : ℕ) → z < 256 → power_byte (pushed_bit z z 0xd1) ≡ product beta (power_byte z)
unfolding times_alpha alpha_byte scaled product beta dual_exponents basis_sum of_dual ones ones_in
beta_computed = agree 256 (λ z. power_byte (pushed_bit z z 0xd1)) (λ z. product beta (power_byte z)) tt

pub beta_right : (z : ℕ) → z < 256 → power_byte (beta_step z) ≡ product beta (power_byte z)
beta_right z h = ap (λ m. power_byte (pushed_bit z z m)) incoming_is ∙ beta_computed z h

pushed_bit_below : (p z mask : ℕ) → pushed_bit p z mask < 256
pushed_bit_below p z mask = let b : parity_of (bit_and z mask) < 2 = omega arith in omega arith

power_byte_below : (z : ℕ) → power_byte z < 256
power_byte_below z = (power_of_dual (symbol z)).byte

-- The bits that are pushed behind j others are those of the dual byte.
pushed_is : (n j z g p : ℕ) → j + n ≡ 8 → p < 2 ^ j → z < 256 → g < 256 → pushed n z (mask_of g) p ≡ dual_bits n p (product (power_byte z) g)
unfolding pushed dual_bits
pushed_is zero j z g p e hp hz hg = refl
pushed_is (suc n) j z g p e hp hz hg =
    let bit = parity_of (bit_and z (mask_of g)) in
    let b : bit < 2 = omega arith in
    let most : 2 ^ j ≤ 2 ^ 7 = pow_mono {i = j} {j = 7} (omega arith) in
    let same : p % 128 ≡ p = omega arith in
    let next : 2 ^ suc j ≡ 2 ^ j * 2 = pow-suc 2 j in
    let new : ℕ = p % 128 * 2 + bit in
    let small : new < 2 ^ suc j = omega arith in
    let value : new ≡ p * 2 + trace (product (power_byte z) g) = ap₂ (λ q t. q * 2 + t) same (sym (trace_mask z g hz hg)) in
    let moved : product (power_byte (beta_step z)) g ≡ product beta (product (power_byte z) g) =
    ap (λ a. product a g) (beta_right z hz) ∙ product_assoc beta (power_byte z) g beta_below (power_byte_below z) hg in
    pushed_is n (suc j) (beta_step z) g new (omega arith) small (pushed_bit_below z z incoming) hg
    ∙ ap₂ (dual_bits n) value moved

pub eight_bits : (z g : ℕ) → z < 256 → g < 256 → pushed 8 z (mask_of g) 0 ≡ to_dual (product (power_byte z) g)
unfolding to_dual
eight_bits z g hz hg = pushed_is 8 0 z g 0 refl (lit< tt) hz hg

pub mask_at : (masks : List ℕ) → masks_right masks ≡ true → (k : ℕ) → k < 32 → get_or masks k 0 ≡ mask_of (coefficient_byte k)
unfolding masks_right
mask_at masks rule k h = tabulated 32 (λ k. mask_of (coefficient_byte k)) masks rule k h

-- A turn of the loop, and its end.
pub pushed_next : (i z mask p : ℕ) → i < 8 → pushed (8 - (i + 1)) (beta_step z) mask (pushed_bit p z mask) ≡ pushed (8 - i) z mask p
unfolding pushed
pushed_next i z mask p h = let e : suc (8 - (i + 1)) ≡ 8 - i = omega arith in ap (λ n. pushed n z mask p) e

pub pushed_none : (i z mask p : ℕ) → 8 ≤ i → pushed (8 - i) z mask p ≡ p
unfolding pushed
pushed_none i z mask p h = let e : 8 - i ≡ 0 = omega arith in ap (λ n. pushed n z mask p) e

pub pushed_all : (masks : List ℕ) → masks_right masks ≡ true → (f k p : ℕ) → f < 256 → k < 32
    → p ≡ pushed 8 f (get_or masks k 0) 0 → p ≡ to_dual (product (power_byte f) (coefficient_byte k))
pushed_all masks rule f k p hf hk e =
    e ∙ ap (λ m. pushed 8 f m 0) (mask_at masks rule k hk) ∙ eight_bits f (coefficient_byte k) hf (coefficient_below k)
