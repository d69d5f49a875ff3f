-- The two ways between power form and dual form undo one another: one test each, computed over the 256 bytes.
use Rattle.std.specs.Prelude.{◌≡◌, refl, Bool, cond, List, [], ◌∷◌, ℕ, ◌*◌, ◌/◌, ◌%◌, ◌^◌, ◌<◌, eqb, T, length, get_or}
use Rattle.std.proofs.Common.{sym, ap, ap₂, ◌∙◌, arith}
use Rattle.std.specs.Int.Bits.{bit_xor, bit_and}
use Rattle.std.proofs.lemmas.Nat.{xor_mod, xor_shr, xor_lt}
use Rattle.std.specs.Int.Count.{ones}
use Rattle.table.specs.Computed.{all_below}
use Rattle.table.proofs.Tests.{below, agree}
use Rattle.power_form.specs.Arithmetic.{times_alpha, alpha_byte, scaled, product}
use Rattle.power_form.specs.Products.{bit_keeps, swap_middle}
use Rattle.dual_form.specs.Dual.{squares, trace, beta, dual_bits, to_dual, dual_exponents, basis_sum, of_dual}

pub of_to : (a : ℕ) → a < 256 → of_dual (to_dual a % 256) % 256 ≡ a
unfolding times_alpha alpha_byte scaled product squares trace beta dual_bits to_dual dual_exponents basis_sum of_dual
of_to = agree 256 (λ a. of_dual (to_dual a % 256) % 256) (λ a. a) tt

pub to_of : (z : ℕ) → z < 256 → to_dual (of_dual z % 256) % 256 ≡ z
unfolding times_alpha alpha_byte scaled product squares trace beta dual_bits to_dual dual_exponents basis_sum of_dual
to_of = agree 256 (λ z. to_dual (of_dual z % 256) % 256) (λ z. z) tt

basis_sum_keeps : (es : List ℕ) (x y : ℕ) → basis_sum es (bit_xor x y) ≡ bit_xor (basis_sum es x) (basis_sum es y)
unfolding basis_sum
basis_sum_keeps [] x y = refl
basis_sum_keeps (e ∷ es) x y =
    let k = length es in
    ap₂ bit_xor
    (ap (λ b. b % 2 * alpha_byte e) (xor_shr x y k) ∙ ap (λ b. b * alpha_byte e) (xor_mod (x / 2 ^ k) (y / 2 ^ k) 1)
    ∙ bit_keeps (alpha_byte e) (x / 2 ^ k % 2) (y / 2 ^ k % 2) (omega arith) (omega arith))
    (basis_sum_keeps es x y)
    ∙ swap_middle (x / 2 ^ k % 2 * alpha_byte e) (y / 2 ^ k % 2 * alpha_byte e) (basis_sum es x) (basis_sum es y)

of_dual_keeps : (x y : ℕ) → of_dual (bit_xor x y) % 256 ≡ bit_xor (of_dual x % 256) (of_dual y % 256) % 256
unfolding of_dual
of_dual_keeps x y =
    let u = basis_sum dual_exponents x in
    let v = basis_sum dual_exponents y in
    let sum : bit_xor u v % 256 ≡ bit_xor (u % 256) (v % 256) = xor_mod u v 8 in
    let small : bit_xor (u % 256) (v % 256) < 256 = xor_lt 8 (u % 256) (v % 256) (omega arith) (omega arith) in
    ap (λ n. n % 256) (basis_sum_keeps dual_exponents x y) ∙ sum ∙ (let e : bit_xor (u % 256) (v % 256) ≡ bit_xor (u % 256) (v % 256) % 256 = omega arith in e)

-- The byte of a sum is the sum of the bytes.
pub dual_sum : (x y : ℕ) → x < 256 → y < 256 → bit_xor x y ≡ to_dual (bit_xor (of_dual x % 256) (of_dual y % 256) % 256) % 256
dual_sum x y hx hy = sym (to_of (bit_xor x y) (xor_lt 8 x y hx hy)) ∙ ap (λ n. to_dual n % 256) (of_dual_keeps x y)

pub trace_parity : (u : ℕ) → u < 256 → trace u ≡ ones (bit_and u 0xfe) % 2
unfolding times_alpha scaled product squares trace ones
trace_parity = agree 256 trace (λ u. ones (bit_and u 0xfe) % 2) tt

-- The trace of β^i·ℓj.
paired : ℕ → ℕ → ℕ
paired i j = trace (product (alpha_byte (117 * i)) (alpha_byte (get_or dual_exponents j 0)))

pairs_test : Bool
pairs_test = all_below 8 (λ i. all_below 8 (λ j. eqb (paired i j) (cond (eqb i j) 1 0)))

pairs_pass : T pairs_test
unfolding pairs_test paired times_alpha alpha_byte scaled product squares trace dual_exponents
pairs_pass = tt

pub trace_pairs : (i j : ℕ) → i < 8 → j < 8 → trace (product (alpha_byte (117 * i)) (alpha_byte (get_or dual_exponents j 0))) ≡ cond (eqb i j) 1 0
unfolding pairs_test paired
trace_pairs i j hi hj =
    agree 8 (paired i) (λ j. cond (eqb i j) 1 0) (below 8 (λ i. all_below 8 (λ j. eqb (paired i j) (cond (eqb i j) 1 0))) pairs_pass i hi) j hj
