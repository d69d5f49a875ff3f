-- The places of a lane in a block, and the lane turned round, C_0 first.
use Rattle.std.proofs.Common.{◌≡◌, ℕ, ◌+◌, ◌-◌, ◌*◌, ◌/◌, ◌%◌, ◌<◌, cond, List, map, length, get_or, Some, None, sym, ap, ◌∙◌, lt-ltb, zero-add, arith}
use lib.ListN.{length-reverse}
use Rattle.std.proofs.lemmas.Nat.{div-add-mod', div_below}
use Rattle.std.proofs.lemmas.List.{get_or-map, get_or-reverse, length-map}
use Rattle.std.proofs.lemmas.List.FromFn.{fill_by_all, get_or-map-range_with_len, length-map-range_with_len}
use Rattle.dual_form.specs.DualForm.{symbol, dual_ops}
use Rattle.dual_form.specs.declared.element.Dual.{Dual}
use Rattle.block.specs.Lanes.{lane, lane_of, word, Interleaved}

pub length_lane : (n d : ℕ) (bytes : List ℕ) (l : ℕ) → length (lane n d bytes l) ≡ n
unfolding lane
length_lane n d bytes l = length-map-range_with_len (λ i. get_or bytes (i * d + l) 0) 0 n

pub lane_at : (n d : ℕ) (bytes : List ℕ) (l i : ℕ) → i < n → get_or (lane n d bytes l) i 0 ≡ get_or bytes (i * d + l) 0
unfolding lane
lane_at n d bytes l i h = get_or-map-range_with_len (λ i. get_or bytes (i * d + l) 0) 0 n i i 0 h (zero-add i)

-- A lane that there is.
pub lane_there : (d : ℕ) (block : List ℕ) (l : ℕ) → l < d → lane_of d block l ≡ Some (lane 255 d block l)
lane_there d block l inside = ap (λ t. cond t (Some (lane 255 d block l)) None) (lt-ltb l d inside)

pub lane_given : (d : ℕ) (block : List ℕ) (l : ℕ) (bytes : List ℕ) → l < d → lane_of d block l ≡ Some bytes → bytes ≡ lane 255 d block l
lane_given d block l bytes inside e = let there = lane_there d block l inside in cc

pub length_word : (d : ℕ) (block : List ℕ) (l : ℕ) → length (word d block l) ≡ 255
unfolding word
length_word d block l =
    length-reverse (map symbol (lane 255 d block l)) ∙ length-map (lane 255 d block l) symbol ∙ length_lane 255 d block l

-- C_k of the lane l.
pub word_at : (d : ℕ) (block : List ℕ) (l k : ℕ) (x : Dual) → k < 255 → get_or (word d block l) k x ≡ symbol (get_or block ((254 - k) * d + l) 0)
unfolding word
word_at d block l k x h =
    let bytes = lane 255 d block l in
    let long : length (map symbol bytes) ≡ 255 = length-map bytes symbol ∙ length_lane 255 d block l in
    let at : length (map symbol bytes) - 1 - k ≡ 254 - k = omega arith in
    get_or-reverse (map symbol bytes) k x (omega arith)
    ∙ ap (λ i. get_or (map symbol bytes) i x) at
    ∙ get_or-map symbol bytes (254 - k) 0 x (omega (arith, length_lane 255 d block l))
    ∙ ap symbol (lane_at 255 d block l (254 - k) (omega arith))

-- The lane is what a loop over its places reads.
pub word_filled : (d : ℕ) (block : List ℕ) (l : ℕ) (xs : List Dual) → length xs ≡ 255 → ((k : ℕ) → k < 255 → get_or xs k (symbol 0) ≡ symbol (get_or block ((254 - k) * d + l) 0)) → xs ≡ word d block l
word_filled d block l xs long each =
    fill_by_all (λ k. symbol (get_or block ((254 - k) * d + l) 0)) xs 255 (symbol 0) long each
    ∙ sym (fill_by_all (λ k. symbol (get_or block ((254 - k) * d + l) 0)) (word d block l) 255 (symbol 0) (length_word d block l) (λ k h. word_at d block l k (symbol 0) h))

pub interleaved : Interleaved
interleaved d block m some long within =
    let row : m / d < 255 = div_below m d 255 some within in
    let twice : 254 - (254 - m / d) ≡ m / d = omega arith in
    word_at d block (m % d) (254 - m / d) dual_ops.nought (omega arith)
    ∙ ap (λ i. symbol (get_or block (i * d + m % d) 0)) twice
    ∙ ap (λ i. symbol (get_or block i 0)) (div-add-mod' m d)
