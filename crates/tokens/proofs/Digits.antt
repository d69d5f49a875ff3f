-- One byte more of a hex text, and texts that spell no bytes.
use Rattle.std.proofs.Common.{◌≡◌, ℕ, zero, suc, ◌+◌, ◌-◌, ◌*◌, ◌/◌, ◌%◌, ◌<◌, ◌≤◌, true, false, ◌⊎◌, List, [], ◌∷◌, ◌++◌, length, get_or, take, drop, Ok, Err, Result, sym, refl, ap, ◌∙◌, subst, inl, inr, ⊎_elim, true≢false, append_assoc, append-nil, arith, length-append, MatchResult}
use Rattle.std.proofs.lemmas.List.{get_or-append_right, take_all}
use Rattle.std.proofs.lemmas.Bool.Decides.{nat_tests}
use Rattle.std.specs.Char.{digit_char}
use Rattle.tokens.specs.declared.fault.Fault.{Fault}
use Rattle.tokens.specs.declared.fault.Fault.TheVariants.{Memory, Shape, Key, Digit, Half, Number, Long, Text}
use Rattle.tokens.specs.Bytes.{is_hex, two_digits, spelled, shown_bytes, Bytes, NoBytes, NoDigit, BadBytes, BadByte}
use Rattle.tokens.specs.Columns.{ahead}
use Rattle.tokens.specs.Words.{Plain}
use Rattle.tokens.proofs.Blanks.{lacks_told}

-- columns add up
pub ahead_ahead : (c m n : ℕ) → ahead (ahead c m) n ≡ ahead c (m + n)
ahead_ahead c m n = omega arith

pub spelled_push : (xs : List ℕ) (b : ℕ) → spelled (xs ++ b ∷ []) ≡ spelled xs ++ two_digits b
spelled_push [] b = refl
spelled_push (x ∷ xs) b = ap (λ l. digit_char (x / 16) ∷ digit_char (x % 16) ∷ l) (spelled_push xs b)

length_spelled : (xs : List ℕ) → length (spelled xs) ≡ 2 * length xs
length_spelled [] = refl
length_spelled (x ∷ xs) = omega (arith, length_spelled xs)

two_more : (rest : List ℕ) → 2 ≤ length rest → (get_or rest 0 0 ∷ get_or rest 1 0 ∷ []) ++ take (length rest - 2) (drop 2 rest) ≡ rest
two_more [] h = absurd (omega arith)
two_more (a ∷ []) h = absurd (omega arith)
two_more (a ∷ b ∷ more) h = ap (λ l. a ∷ b ∷ l) (take_all _ more (omega arith))

-- the text so far, with one byte more
pub again : (xs ys rest t : List ℕ) (b : ℕ) → spelled xs ++ rest ≡ t → ys ≡ xs ++ b ∷ [] → 2 ≤ length rest → get_or rest 0 0 ∷ get_or rest 1 0 ∷ [] ≡ two_digits b → spelled ys ++ take (length rest - 2) (drop 2 rest) ≡ t
again xs ys rest t b sofar put some digits =
    let more = take (length rest - 2) (drop 2 rest) in
    ap (λ v. spelled v ++ more) put
    ∙ ap (λ v. v ++ more) (spelled_push xs b)
    ∙ append_assoc (spelled xs) (two_digits b) more
    ∙ ap (λ v. spelled xs ++ (v ++ more)) (sym digits)
    ∙ ap (λ v. spelled xs ++ v) (two_more rest some)
    ∙ sofar

-- what stands at a place of the rest stands in the text
stands : (xs rest t : List ℕ) (i : ℕ) → spelled xs ++ rest ≡ t → i < length rest → (length t - length rest + i < length t) × (get_or t (length t - length rest + i) 0 ≡ get_or rest i 0)
stands xs rest t i sofar some =
    let long = ap length sofar in
    let parts = length-append (spelled xs) rest in
    let at : length (spelled xs) ≡ length t - length rest = omega (arith, long, parts) in
    let back : length t - length rest + i - (length t - length rest) ≡ i = omega arith in
    (omega (arith, long, parts), ap (λ l. get_or l (length t - length rest + i) 0) (sym sofar) ∙ get_or-append_right (spelled xs) rest (length t - length rest) (length t - length rest + i) 0 at (omega arith) ∙ ap (λ k. get_or rest k 0) back)

of_two : (rest : List ℕ) (i : ℕ) → i < 2 → get_or (get_or rest 0 0 ∷ get_or rest 1 0 ∷ []) i 0 ≡ get_or rest i 0
of_two rest zero h = refl
of_two rest (suc zero) h = refl
of_two rest (suc (suc i)) h = absurd (omega arith)

no_digit : (xs rest b t : List ℕ) (at c d : ℕ) → spelled xs ++ rest ≡ b → b ≡ t → 2 ≤ length rest → d ≡ ahead c (length b - length rest) → NoDigit at d (get_or rest 0 0 ∷ get_or rest 1 0 ∷ []) → NoDigit at c t
no_digit xs rest b t at c d sofar same some column h =
    let i = h.0 in
    let p = stands xs rest b i sofar (omega (arith, h.2)) in
    let k = length b - length rest + i in
    let bad : is_hex (get_or rest i 0) ≡ false = ap is_hex (sym (of_two rest i (omega (arith, h.2)))) ∙ h.3 in
    (k, h.1 ∙ ap (λ m. ahead m i) column ∙ ahead_ahead c (length b - length rest) i, subst (λ l. k < length l) same p.0, ap (λ l. is_hex (get_or l k 0)) (sym same) ∙ ap is_hex p.1 ∙ bad)

-- a pair that is refused is a reason to refuse the text
pub bad_pair : (f : Fault) (xs rest b t : List ℕ) (c d : ℕ) → spelled xs ++ rest ≡ b → b ≡ t → 2 ≤ length rest → d ≡ ahead c (length b - length rest) → BadByte f d (get_or rest 0 0 ∷ get_or rest 1 0 ∷ []) → BadBytes f c t
bad_pair Memory xs rest b t c d sofar same some column h = absurd h
bad_pair Shape xs rest b t c d sofar same some column h = h
bad_pair Key xs rest b t c d sofar same some column h = h
bad_pair (Digit at) xs rest b t c d sofar same some column h = no_digit xs rest b t at c d sofar same some column h
bad_pair Half xs rest b t c d sofar same some column h = absurd (omega arith)
bad_pair Number xs rest b t c d sofar same some column h = absurd (omega arith)
bad_pair Long xs rest b t c d sofar same some column h = h
bad_pair (Text at) xs rest b t c d sofar same some column h = h

pub whole : (xs rest t : List ℕ) → spelled xs ++ rest ≡ t → length rest ≡ 0 → t ≡ spelled xs
whole xs [] t sofar none = sym sofar ∙ append-nil (spelled xs)
whole xs (x ∷ rest) t sofar none = absurd (omega arith)

pub odd : (xs rest b t : List ℕ) → spelled xs ++ rest ≡ b → b ≡ t → length rest ≡ 1 → length t % 2 ≡ 1
odd xs rest b t sofar same one = omega (arith, ap length sofar, ap length same, length-append (spelled xs) rest, length_spelled xs)

-- the digits of a byte
hex_digit : (d : ℕ) → d < 16 → is_hex (digit_char d) ≡ true
hex_digit d h = grind (arith, nat_tests)

all_hex : (bs : List ℕ) → Bytes bs → (i : ℕ) → i < length (spelled bs) → is_hex (get_or (spelled bs) i 0) ≡ true
all_hex [] ok i h = absurd (omega arith)
all_hex (b ∷ bs) ok zero h = let small = ok 0 in hex_digit (b / 16) (omega arith)
all_hex (b ∷ bs) ok (suc zero) h = hex_digit (b % 16) (omega arith)
all_hex (b ∷ bs) ok (suc (suc i)) h = all_hex bs (λ k. ok (suc k)) i (omega arith)

even_spelled : (bs t : List ℕ) → t ≡ spelled bs → length t % 2 ≡ 1 → ⊥
even_spelled bs t e h = omega (arith, ap length e, length_spelled bs)

not_spelled : (at c : ℕ) (t : List ℕ) → NoDigit at c t → (bs : List ℕ) → Bytes bs → t ≡ spelled bs → ⊥
not_spelled at c t h bs ok e =
    let yes_hex = all_hex bs ok h.0 (subst (λ l. h.0 < length l) e h.2) in
    let no_hex = ap (λ l. is_hex (get_or l h.0 0)) (sym e) ∙ h.3 in
    true≢false (sym yes_hex ∙ no_hex)

-- what is refused, but for want of memory, spells no bytes
pub refutes : (f : Fault) (c : ℕ) (t : List ℕ) → BadBytes f c t → (f ≡ Memory) ⊎ ((bs : List ℕ) → Bytes bs → t ≡ spelled bs → ⊥)
refutes Memory c t h = inl refl
refutes Shape c t h = absurd h
refutes Key c t h = absurd h
refutes (Digit at) c t h = inr (not_spelled at c t h)
refutes Half c t h = inr (λ bs ok e. even_spelled bs t e h)
refutes Number c t h = absurd h
refutes Long c t h = absurd h
refutes (Text at) c t h = absurd h

one_byte : (b : ℕ) → b < 256 → Bytes (b ∷ [])
one_byte b small zero = small
one_byte b small (suc k) = omega arith

-- what is refused as a byte is no byte's two digits
pub no_byte : (f : Fault) (c : ℕ) (t : List ℕ) → BadByte f c t → (b : ℕ) → b < 256 → t ≡ two_digits b → ⊥
no_byte Memory c t h b small e = h
no_byte Shape c t h b small e = h
no_byte Key c t h b small e = h
no_byte (Digit at) c t h b small e = not_spelled at c t h (b ∷ []) (one_byte b small) e
no_byte Half c t h b small e = omega (arith, ap length e)
no_byte Number c t h b small e = omega (arith, ap length e)
no_byte Long c t h b small e = h
no_byte (Text at) c t h b small e = h

not_shown : (t : List ℕ) → (t ≡ 45 ∷ [] → ⊥) → ((bs : List ℕ) → Bytes bs → t ≡ spelled bs → ⊥) → NoBytes t
not_shown t no_dash none [] ok e = no_dash e
not_shown t no_dash none (b ∷ bs) ok e = none (b ∷ bs) ok e

some_shown : (t bs : List ℕ) → (t ≡ [] → ⊥) → t ≡ spelled bs → t ≡ shown_bytes bs
some_shown t [] some e = absurd (some e)
some_shown t (b ∷ bs) some e = e

pub refuted : {T : Type 0} (items : T → List ℕ) (r : Result T Fault) (c : ℕ) (t : List ℕ) → MatchResult r (λ v. t ≡ spelled (items v)) (λ f. BadBytes f c t) → (t ≡ [] → ⊥) → (t ≡ 45 ∷ [] → ⊥) → MatchResult r (λ v. t ≡ shown_bytes (items v)) (λ f. (f ≡ Memory) ⊎ NoBytes t)
refuted items (Ok v) c t h some no_dash = some_shown t (items v) some h
refuted items (Err f) c t h some no_dash = ⊎_elim (λ m. inl m) (λ none. inr (not_shown t no_dash none)) (refutes f c t h)

-- bytes as text are one word
pub plain_shown : (bs : List ℕ) → Bytes bs → Plain (shown_bytes bs)
plain_shown [] ok = (omega arith, λ k lt e. lacks_told (45 ∷ []) refl k lt e)
plain_shown (b ∷ bs) ok = (omega arith, λ k lt e. true≢false (sym (all_hex (b ∷ bs) ok k lt) ∙ ap is_hex e))
