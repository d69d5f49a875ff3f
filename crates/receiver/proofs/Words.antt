-- Words as bytes in the order in which they are sent: their symbols.
use Rattle.std.proofs.Common.{◌≡◌, ℕ, ◌-◌, ◌<◌, List, [], ◌∷◌, ◌++◌, map, reverse, length, get_or, Some, Option, sym, refl, ap, ◌∙◌, ap₂, arith}
use Rattle.std.proofs.lemmas.List.{get_or-map, get_or-reverse, length-map, length-reverse, reverse-append, reverse-reverse, map_push}
use Rattle.std.proofs.lemmas.Simd.{map-map}
use Rattle.polynomial.specs.Coefficients.{coeff}
use Rattle.power_form.specs.declared.element.Power.{Power}
use Rattle.dual_form.specs.DualForm.{symbol, dual_of_power, power_of_dual, dual_ops}
use Rattle.dual_form.specs.declared.element.Dual.{Dual}
use Rattle.dual_form.specs.DualLaws.{symbol_of}
use Rattle.block.specs.Lanes.{lane_of, word}
use Rattle.block.proofs.Places.{lane_given}
use Rattle.receiver.specs.Words.{word_of, power_word_of}

pub length_word_of : (bytes : List ℕ) → length (word_of bytes) ≡ length bytes
unfolding word_of
length_word_of bytes = length-reverse (map symbol bytes) ∙ length-map bytes symbol

-- C_k is the symbol of byte 254 - k.
word_of_entry : (bytes : List ℕ) (k : ℕ) (x : Dual) → length bytes ≡ 255 → k < 255 → get_or (word_of bytes) k x ≡ symbol (get_or bytes (254 - k) 0)
unfolding word_of
word_of_entry bytes k x long h =
    let size : length (map symbol bytes) ≡ 255 = length-map bytes symbol ∙ long in
    let at : length (map symbol bytes) - 1 - k ≡ 254 - k = omega arith in
    get_or-reverse (map symbol bytes) k x (omega arith) ∙ ap (λ i. get_or (map symbol bytes) i x) at ∙ get_or-map symbol bytes (254 - k) 0 x (omega arith)

pub word_of_at : (bytes : List ℕ) (i : ℕ) → length bytes ≡ 255 → i < 255 → coeff dual_ops (word_of bytes) (254 - i) ≡ symbol (get_or bytes i 0)
unfolding coeff
word_of_at bytes i long h =
    let twice : 254 - (254 - i) ≡ i = omega arith in
    word_of_entry bytes (254 - i) dual_ops.nought long (omega arith) ∙ ap (λ k. symbol (get_or bytes k 0)) twice

reverse_map : {A B : Type 0} (f : A → B) (xs : List A) → reverse (map f xs) ≡ map f (reverse xs)
reverse_map f [] = refl
reverse_map f (x ∷ xs) =
    reverse-append (f x ∷ []) (map f xs) ∙ ap (λ l. l ++ f x ∷ []) (reverse_map f xs) ∙ sym (map_push f (reverse xs) x)
    ∙ ap (map f) (sym (reverse-append (x ∷ []) xs))

-- The bytes' elements in power form, turned round.
pub power_word_is : (bytes : List ℕ) → reverse (map (λ b. power_of_dual (symbol b)) bytes) ≡ power_word_of bytes
unfolding power_word_of word_of
power_word_is bytes = ap reverse (sym (map-map power_of_dual symbol bytes)) ∙ reverse_map power_of_dual (map symbol bytes)

symbols_of : (word : List Power) → map symbol (map (λ x. (dual_of_power x).byte) word) ≡ map dual_of_power word
symbols_of [] = refl
symbols_of (x ∷ word) = ap₂ ◌∷◌ (sym (symbol_of (dual_of_power x) (dual_of_power x).byte refl)) (symbols_of word)

-- Bytes that are those of a word, turned round, are the word in dual form.
pub word_written : (word : List Power) (bytes : List ℕ) → bytes ≡ reverse (map (λ x. (dual_of_power x).byte) word) → word_of bytes ≡ map dual_of_power word
unfolding word_of
word_written word bytes is =
    let sent = map (λ x. (dual_of_power x).byte) word in
    ap (λ bs. reverse (map symbol bs)) is ∙ ap reverse (sym (reverse_map symbol sent)) ∙ reverse-reverse (map symbol sent) ∙ symbols_of word

-- The bytes that are given for a lane are its word.
pub lane_read : (d : ℕ) (block : List ℕ) (l : ℕ) (given : Option (List ℕ)) (bytes : List ℕ) → l < d → given ≡ lane_of d block l → given ≡ Some bytes
    → word_of bytes ≡ word d block l
unfolding word_of word
lane_read d block l given bytes inside is some = ap (λ xs. reverse (map symbol xs)) (lane_given d block l bytes inside (sym is ∙ some))
