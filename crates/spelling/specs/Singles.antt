-- Exponents as text may stand in lists: a test over all of them.
use lib.Dec.{T, ltb, ltb→lt}
use native.Mathlib.Omega.{arith}
use mathlib.Core.Path.{ap}
use Rattle.std.specs.Prelude.{◌≡◌, Bool, true, ℕ, zero, suc, ◌<◌, List, [], ◌∷◌, decimal, length, slice_index}
use Rattle.std.specs.Fmt.{digits}
use Rattle.table.specs.Computed.{both, all_below}
use Rattle.table.proofs.Tests.{both_left, both_right, below}
use Rattle.spelling.specs.Lists.{Single}

-- each byte is above those of the blank, the comma and the dash
abbrev all_above : List ℕ → Bool
all_above [] = true
all_above (b ∷ bs) = both (ltb 45 b) (all_above bs)

above : (w : List ℕ) → T (all_above w) → (k : ℕ) → k < length w → 45 < slice_index w k
above [] t k h = absurd (omega arith)
above (b ∷ bs) t zero h = ltb→lt 45 b (both_left (ltb 45 b) (all_above bs) t)
above (b ∷ bs) t (suc k) h = above bs (both_right (ltb 45 b) (all_above bs) t) k (omega arith)

abbrev may_stand : List ℕ → Bool
may_stand w = both (ltb 0 (length w)) (all_above w)

single : (w : List ℕ) → T (may_stand w) → Single w
single w t =
    let some : 0 < length w = ltb→lt 0 (length w) (both_left (ltb 0 (length w)) (all_above w) t) in
    let high = above w (both_right (ltb 0 (length w)) (all_above w) t) in
    record {
      some = some;
      no_blank = λ k h e. let a = high k h in omega arith;
      no_comma = λ k h e. let a = high k h in omega arith;
      no_dash = λ e. let a = high 0 some in let b : slice_index w 0 ≡ 45 = ap (λ l. slice_index l 0) e in omega arith;
    }

computed : T (all_below 255 (λ n. may_stand (decimal n)))
unfolding digits
computed = tt

pub single_decimal : (n : ℕ) → n < 255 → Single (decimal n)
single_decimal n small = single (decimal n) (below 255 (λ k. may_stand (decimal k)) computed n small)
