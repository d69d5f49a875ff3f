-- The number of symbols in which two blocks differ is the sum of those of their lanes.
use Rattle.std.proofs.Common.{◌≡◌, ℕ, suc, ◌+◌, ◌*◌, Bool, true, false, cond, List, [], ◌∷◌, map, length, get_or, sym, refl, ap, ◌∙◌, ap₂, arith}
use mathlib.Core.List.{reverse_aux}
use Rattle.std.proofs.lemmas.List.{length-map}
use Rattle.field.specs.Field.{Ops}
use Rattle.polynomial.specs.Words.{distance}
use Rattle.dual_form.specs.DualForm.{symbol, dual_ops}
use Rattle.block.specs.Depths.{block_length}
use Rattle.block.specs.Lanes.{lane, word}
use Rattle.block.proofs.Places.{length_lane, lane_at}
use Rattle.reception.specs.Messages.{total}
use Rattle.reception.proofs.Totals.{total_same, total_first, total_rows, total_swap}

counted : (t : Bool) (n : ℕ) → cond t n (suc n) ≡ cond t 0 1 + n
counted true n = omega arith
counted false n = omega arith

-- Words turned round differ in as many places.
turned : {F : Type 0} (o : Ops F) (v w a b : List F) → length v ≡ length w → distance o (reverse_aux v a) (reverse_aux w b) ≡ distance o v w + distance o a b
unfolding distance
turned o [] [] a b l = omega arith
turned o [] (y ∷ w) a b l = absurd (omega arith)
turned o (x ∷ v) [] a b l = absurd (omega arith)
turned o (x ∷ v) (y ∷ w) a b l =
    omega (arith, turned o v w (x ∷ a) (y ∷ b) (omega arith), counted (o.same x y) (distance o a b), counted (o.same x y) (distance o v w))

-- 1 where the symbols of two bytes differ, otherwise 0.
abbrev unlike : ℕ → ℕ → ℕ
unlike x y = cond (dual_ops.same (symbol x) (symbol y)) 0 1

-- The symbols of bytes differ in so many places.
by_places : (xs ys : List ℕ) → length xs ≡ length ys → distance dual_ops (map symbol xs) (map symbol ys) ≡ total (length xs) (λ i. unlike (get_or xs i 0) (get_or ys i 0))
unfolding distance total
by_places [] [] l = refl
by_places [] (y ∷ ys) l = absurd (omega arith)
by_places (x ∷ xs) [] l = absurd (omega arith)
by_places (x ∷ xs) (y ∷ ys) l =
    counted (dual_ops.same (symbol x) (symbol y)) (distance dual_ops (map symbol xs) (map symbol ys))
    ∙ ap (λ n. unlike x y + n) (by_places xs ys (omega arith))
    ∙ sym (total_first (length xs) (λ i. unlike (get_or (x ∷ xs) i 0) (get_or (y ∷ ys) i 0)))

-- The symbols of one lane differ in so many places.
in_lane : (d : ℕ) (xs ys : List ℕ) (l : ℕ) → distance dual_ops (word d xs l) (word d ys l) ≡ total 255 (λ i. unlike (get_or xs (i * d + l) 0) (get_or ys (i * d + l) 0))
unfolding word distance
in_lane d xs ys l =
    let v = lane 255 d xs l in
    let w = lane 255 d ys l in
    let long : length v ≡ length w = length_lane 255 d xs l ∙ sym (length_lane 255 d ys l) in
    let around : distance dual_ops (word d xs l) (word d ys l) ≡ distance dual_ops (map symbol v) (map symbol w) + 0 =
    turned dual_ops (map symbol v) (map symbol w) [] [] (length-map v symbol ∙ long ∙ sym (length-map w symbol)) in
    let plain : distance dual_ops (word d xs l) (word d ys l) ≡ distance dual_ops (map symbol v) (map symbol w) = omega (arith, around) in
    plain
    ∙ by_places v w long
    ∙ ap (λ n. total n (λ i. unlike (get_or v i 0) (get_or w i 0))) (length_lane 255 d xs l)
    ∙ total_same 255 (λ i. unlike (get_or v i 0) (get_or w i 0)) (λ i. unlike (get_or xs (i * d + l) 0) (get_or ys (i * d + l) 0))
    (λ i h. ap₂ unlike (lane_at 255 d xs l i h) (lane_at 255 d ys l i h))

pub by_lanes : (d : ℕ) (xs ys : List ℕ) → length xs ≡ block_length d → length ys ≡ block_length d
    → distance dual_ops (map symbol xs) (map symbol ys) ≡ total d (λ l. distance dual_ops (word d xs l) (word d ys l))
by_lanes d xs ys long long' =
    let at : ℕ → ℕ = λ m. unlike (get_or xs m 0) (get_or ys m 0) in
    by_places xs ys (long ∙ sym long')
    ∙ ap (λ n. total n at) long
    ∙ total_rows 255 d at
    ∙ total_swap 255 d (λ i l. at (i * d + l))
    ∙ total_same d (λ l. total 255 (λ i. at (i * d + l))) (λ l. distance dual_ops (word d xs l) (word d ys l)) (λ l h. sym (in_lane d xs ys l))
