-- Lanes that are copied as bytes, register by register, and put back.
use Rattle.std.proofs.Common.{◌≡◌, ℕ, ◌+◌, ◌<◌, ◌≤◌, Bool, true, cond, List, [], ◌∷◌, ◌++◌, map, length, get_or, take, drop, set, replicate, Ok, Err, Result, sym, refl, ap, ap₂, ◌∙◌, ◌⊎◌, inl, inr, arith}
use Rattle.std.proofs.lemmas.List.{take_more, take_more_set, take_all, drop_more, drop_all, set_at, set-set, map-set, get_or-map, get_or-set_same, append_assoc, append-nil, length-map, length-set, length-take, length-take-le, length-append, length-drop, take-replicate, take-append-le, map-append}
use Rattle.std.proofs.lemmas.Bool.{lt-ltb, le-ltb, cases_lt}
use Rattle.power_form.specs.Arithmetic.{times_alpha, alpha_byte, scaled, product}
use Rattle.polynomial.specs.Coefficients.{coeff}
use Rattle.dual_form.specs.Dual.{squares, trace, beta, dual_bits, to_dual}
use Rattle.dual_form.specs.DualForm.{symbol, dual_ops}
use Rattle.dual_form.specs.declared.element.Dual.{Dual}
use Rattle.dual_form.specs.DualLaws.{dual_equal, symbol_of}
use Rattle.bank.specs.declared.fault.BankFault.{BankFault}
use Rattle.bank.specs.declared.fault.BankFault.TheVariants.{NoSuchRegister}
use Rattle.bank.specs.Lanes.{Lanes, at, told, told_all, place_there, zeros, all_cleared, placed, elements, held}

-- One more item copied.
pub copied_more : {X : Type 0} (xs ys : List X) (i : ℕ) (d x : X) → i < length xs → i < length ys → take i xs ≡ take i ys → x ≡ get_or ys i d → take (i + 1) (set xs i x) ≡ take (i + 1) ys
copied_more xs ys i d x p q e r =
    take_more_set xs i x p ∙ ap (λ t. t ++ (x ∷ [])) e ∙ ap (λ t. take i ys ++ (t ∷ [])) r ∙ sym (take_more ys i d q)

pub there : (ls : Lanes) (lane place : ℕ) → lane < length ls → place < 32 → place_there ls lane place ≡ true
there ls lane place h i = rw (lt-ltb lane (length ls) h) (lt-ltb place 32 i)

pub read_value : (r : Result ℕ BankFault) (t : Bool) (v b : ℕ) → r ≡ cond t (Ok v) (Err NoSuchRegister) → t ≡ true → r ≡ Ok b → b ≡ v
read_value r t v b p q e = cc

-- What was told of a register that was read.
pub told_read : (ls : Lanes) (lane place b : ℕ) (r : Result ℕ BankFault) → r ≡ told ls lane place → r ≡ Ok b → place < 32 → (lane < length ls) × (b ≡ at ls lane place)
told_read ls lane place b r told_is ok small = go (cases_lt lane (length ls))
  where
    go : (lane < length ls) ⊎ (length ls ≤ lane) → (lane < length ls) × (b ≡ at ls lane place)
    go (inl h) = (h, read_value r (place_there ls lane place) (at ls lane place) b told_is (there ls lane place h small) ok)
    go (inr h) = absurd (let none = rw (le-ltb lane (length ls) h) at told_is in cc)

-- One register more read.
pub read_more : (bytes : List ℕ) (rs : List Dual) (i b : ℕ) → i < length bytes → i < length rs → take i bytes ≡ take i (map (λ x. x.byte) rs)
    → b ≡ (coeff dual_ops rs i).byte → take (i + 1) (set bytes i b) ≡ take (i + 1) (map (λ x. x.byte) rs)
unfolding coeff
read_more bytes rs i b p q so_far e =
    let byte : Dual → ℕ = λ x. x.byte in
    copied_more bytes (map byte rs) i 0 b p (omega (arith, length-map rs byte)) so_far (e ∙ sym (get_or-map byte rs i dual_ops.nought 0 q))

symbols_read : (rs : List Dual) → map symbol (map (λ x. x.byte) rs) ≡ rs
symbols_read [] = refl
symbols_read (x ∷ rs) = ap₂ ◌∷◌ (sym (symbol_of x x.byte refl)) (symbols_read rs)

-- The row of a lane that was read.
pub row_read : (ls : Lanes) (lane : ℕ) (row : List ℕ) (r : Result (List ℕ) BankFault) → r ≡ told_all ls lane → r ≡ Ok row → lane < length ls → map symbol row ≡ get_or ls lane []
row_read ls lane row r told_is ok h =
    let some = rw (lt-ltb lane (length ls) h) at told_is in
    let bytes : List ℕ = map (λ x. x.byte) (get_or ls lane []) in
    let same : row ≡ bytes = cc in
    ap (map symbol) same ∙ symbols_read (get_or ls lane [])

-- One lane more copied.
pub copy_more : (copy : List (List ℕ)) (ls : Lanes) (i : ℕ) (row : List ℕ) → i < length copy → i < length ls → take i (elements copy) ≡ take i ls
    → map symbol row ≡ get_or ls i [] → take (i + 1) (elements (set copy i row)) ≡ take (i + 1) ls
unfolding elements
copy_more copy ls i row p q so_far e =
    ap (take (i + 1)) (map-set (map symbol) copy i row)
    ∙ copied_more (map (map symbol) copy) ls i [] (map symbol row) (omega (arith, length-map copy (map symbol))) q so_far e

-- Every lane copied into the first rows.
pub held_all : (ls : Lanes) (rows rest : List (List ℕ)) (i : ℕ) → i ≡ length ls → length ls ≤ length rows → take i (elements rows) ≡ take i ls → held ls (rows ++ rest) ≡ ls
unfolding held elements
held_all ls rows rest i e long so_far =
    ap (take (length ls)) (map-append (map symbol) rows rest)
    ∙ take-append-le (length ls) (elements rows) (elements rest) (omega (arith, length-map rows (map symbol)))
    ∙ ap (λ n. take n (elements rows)) (sym e) ∙ so_far ∙ take_all i ls (omega arith)

-- One item more put back.
pub spliced_more : {X : Type 0} (xs ys : List X) (i : ℕ) (d : X) → i < length xs → i < length ys → set (take i xs ++ drop i ys) i (get_or xs i d) ≡ take (i + 1) xs ++ drop (i + 1) ys
spliced_more xs ys i d p q =
    ap (λ t. set (take i xs ++ t) i (get_or xs i d)) (drop_more ys i d q)
    ∙ set_at (take i xs) _ (drop (i + 1) ys) (get_or xs i d) i (length-take-le i xs (omega arith))
    ∙ sym (append_assoc (take i xs) (get_or xs i d ∷ []) (drop (i + 1) ys))
    ∙ ap (λ t. t ++ drop (i + 1) ys) (sym (take_more xs i d p))

pub length_spliced : {X : Type 0} (xs ys : List X) (i : ℕ) → i ≤ length xs → i ≤ length ys → length (take i xs ++ drop i ys) ≡ length ys
length_spliced xs ys i p q = simp (length-append, length-take, length-drop) (omega arith)

pub spliced_all : {X : Type 0} (xs ys : List X) (i : ℕ) → length ys ≤ i → i ≤ length ys → take i xs ++ drop i ys ≡ take (length ys) xs
spliced_all xs ys i p q =
    let e : i ≡ length ys = omega arith in
    ap (λ t. take i xs ++ t) (drop_all i ys p) ∙ append-nil (take i xs) ∙ ap (λ t. take t xs) e

-- One register more put back.
pub placed_more : (ls now : Lanes) (lane : ℕ) (row : List ℕ) (p : ℕ) → lane < length ls → p < length row → p < length (get_or ls lane [])
    → now ≡ set ls lane (take p (map symbol row) ++ drop p (get_or ls lane []))
    → placed now lane p (get_or row p 0) ≡ set ls lane (take (p + 1) (map symbol row) ++ drop (p + 1) (get_or ls lane []))
placed_more ls now lane row p h i j e =
    let x = take p (map symbol row) ++ drop p (get_or ls lane []) in
    ap (λ t. placed t lane p (get_or row p 0)) e
    ∙ set-set ls lane x _
    ∙ ap (λ t. set ls lane (set t p (symbol (get_or row p 0)))) (get_or-set_same ls lane x [] h)
    ∙ ap (λ s. set ls lane (set x p s)) (sym (get_or-map symbol row p 0 (symbol 0) i))
    ∙ ap (set ls lane) (spliced_more (map symbol row) (get_or ls lane []) p (symbol 0) (omega (arith, length-map row symbol)) j)

pub held_is : (ls : Lanes) (copy : List (List ℕ)) → held ls copy ≡ take (length ls) (elements copy)
unfolding held
held_is ls copy = refl

pub length_elements : (copy : List (List ℕ)) → length (elements copy) ≡ length copy
unfolding elements
length_elements copy = length-map copy (map symbol)

-- The row of the copy that belongs to a lane.
pub element_row : (copy : List (List ℕ)) (lane : ℕ) → lane < length copy → map symbol (get_or copy lane []) ≡ get_or (elements copy) lane []
unfolding elements
element_row copy lane h = sym (get_or-map (map symbol) copy lane [] [] h)

symbol_nought : symbol 0 ≡ dual_ops.nought
unfolding times_alpha alpha_byte scaled product squares trace beta dual_bits to_dual
symbol_nought = dual_equal refl

map_replicate : {A B : Type 0} (f : A → B) (n : ℕ) (x : A) → map f (replicate n x) ≡ replicate n (f x)
map_replicate f ℕ.zero x = refl
map_replicate f (ℕ.suc n) x = ap (λ t. f x ∷ t) (map_replicate f n x)

zero_row : map symbol (replicate 32 0) ≡ zeros
unfolding zeros
zero_row = map_replicate symbol 32 0 ∙ ap (replicate 32) symbol_nought

-- A copy of zeros.
pub zero_held : (ls : Lanes) → length ls ≤ 8 → held ls (replicate 8 (replicate 32 0)) ≡ all_cleared ls
unfolding held elements
zero_held ls h =
    ap (take (length ls)) (map_replicate (map symbol) 8 (replicate 32 0) ∙ ap (replicate 8) zero_row)
    ∙ take-replicate (length ls) 8 zeros h ∙ lanes ls
  where
    lanes : (ls : Lanes) → replicate (length ls) zeros ≡ all_cleared ls
    lanes [] = refl
    lanes (l ∷ ls) = ap (λ t. zeros ∷ t) (lanes ls)

-- The copy depends on the number of lanes alone.
pub held_same : (ls ms : Lanes) (copy : List (List ℕ)) → length ls ≡ length ms → held ls copy ≡ held ms copy
unfolding held
held_same ls ms copy e = ap (λ n. take n (elements copy)) e

pub held_cleared : (ls now : Lanes) (copy : List (List ℕ)) → now ≡ all_cleared ls → held now copy ≡ held ls copy
held_cleared ls now copy e = held_same now ls copy (ap length e ∙ length-map ls (λ _. zeros))

pub held_set : (ls now : Lanes) (lane : ℕ) (x : List Dual) (copy : List (List ℕ)) → now ≡ set ls lane x → held now copy ≡ held ls copy
held_set ls now lane x copy e = held_same now ls copy (ap length e ∙ length-set ls lane x)

take_again : {X : Type 0} (n : ℕ) (xs : List X) → take (length (take n xs)) xs ≡ take n xs
take_again ℕ.zero xs = refl
take_again (ℕ.suc n) [] = refl
take_again (ℕ.suc n) (x ∷ xs) = ap (λ t. x ∷ t) (take_again n xs)

pub held_restored : (ls now : Lanes) (copy : List (List ℕ)) → now ≡ held ls copy → held now copy ≡ held ls copy
unfolding held
held_restored ls now copy e = ap (λ t. take (length t) (elements copy)) e ∙ take_again (length ls) (elements copy)
