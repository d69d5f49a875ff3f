-- A text with a byte is its first line, and the lines behind it.
use Rattle.std.proofs.Common.{◌≡◌, ◌≢◌, ℕ, ◌<◌, ◌⊎◌, inl, inr, ⊎_elim, Bool, true, false, cond, eqb, List, [], ◌∷◌, ◌++◌, All, length, refl, sym, ap, ap₂, ◌∙◌, arith, length-append, append-nil, eqb-true, ne_eqb}
use Rattle.std.proofs.lemmas.Bool.{eqb-false}
use Rattle.std.proofs.lemmas.List.Elements.{All-nil, All-cons, All-head, All-tail}
use Rattle.std.proofs.BufReadLemmas.{take_through-append, drop_through-append}
use Rattle.std.specs.Io.BufRead.{drop_through, strip_last}
use Rattle.lines.specs.Lines.{line_of, lines_of, with_byte}
use Rattle.lines.proofs.Ends.{feed_stripped, none_stripped}

-- a text has a first line feed, or none
parts : (xs : List ℕ) → ((front : List ℕ) × (rest : List ℕ) × All (λ x. x ≢ 10) front × (xs ≡ front ++ 10 ∷ rest)) ⊎ All (λ x. x ≢ 10) xs
parts [] = inr (All-nil (λ x. x ≢ 10))
parts (x ∷ xs) = at (eqb x 10) refl (parts xs)
  where
    at : (b : Bool) → eqb x 10 ≡ b → ((front : List ℕ) × (rest : List ℕ) × All (λ x. x ≢ 10) front × (xs ≡ front ++ 10 ∷ rest)) ⊎ All (λ x. x ≢ 10) xs
        → ((front : List ℕ) × (rest : List ℕ) × All (λ x. x ≢ 10) front × (x ∷ xs ≡ front ++ 10 ∷ rest)) ⊎ All (λ x. x ≢ 10) (x ∷ xs)
    at true e more = inl ([], xs, All-nil (λ x. x ≢ 10), ap (λ y. y ∷ xs) (eqb-true x 10 e))
    at false e (inl p) = inl (x ∷ p.0, p.1, All-cons (λ x. x ≢ 10) x p.0 (eqb-false x 10 e) p.2, ap (λ l. x ∷ l) p.3)
    at false e (inr all) = inr (All-cons (λ x. x ≢ 10) x xs (eqb-false x 10 e) all)

lines_feed : (front rest : List ℕ) → All (λ x. x ≢ 10) front → lines_of (front ++ 10 ∷ rest) ≡ front ∷ lines_of rest
lines_feed [] rest lacks = refl
lines_feed (x ∷ xs) rest lacks =
    ap (λ b. cond b ([] ∷ lines_of (xs ++ 10 ∷ rest)) (with_byte x (lines_of (xs ++ 10 ∷ rest)))) (ne_eqb x 10 (All-head (λ y. y ≢ 10) x xs lacks))
    ∙ ap (with_byte x) (lines_feed xs rest (All-tail (λ y. y ≢ 10) x xs lacks))

lines_last : (x : ℕ) (xs : List ℕ) → All (λ y. y ≢ 10) (x ∷ xs) → lines_of (x ∷ xs) ≡ (x ∷ xs) ∷ []
lines_last x [] lacks = ap (λ b. cond b ([] ∷ []) (with_byte x [])) (ne_eqb x 10 (All-head (λ y. y ≢ 10) x [] lacks))
lines_last x (y ∷ ys) lacks =
    ap (λ b. cond b ([] ∷ lines_of (y ∷ ys)) (with_byte x (lines_of (y ∷ ys)))) (ne_eqb x 10 (All-head (λ z. z ≢ 10) x (y ∷ ys) lacks))
    ∙ ap (with_byte x) (lines_last y ys (All-tail (λ z. z ≢ 10) x (y ∷ ys) lacks))

pub first_parted : (x : ℕ) (xs : List ℕ)
    → (lines_of (x ∷ xs) ≡ line_of (x ∷ xs) ∷ lines_of (drop_through 10 (x ∷ xs))) × (length (drop_through 10 (x ∷ xs)) < length (x ∷ xs))
first_parted x xs = ⊎_elim feed none (parts (x ∷ xs))
  where
    feed : ((front : List ℕ) × (rest : List ℕ) × All (λ x. x ≢ 10) front × (x ∷ xs ≡ front ++ 10 ∷ rest))
        → (lines_of (x ∷ xs) ≡ line_of (x ∷ xs) ∷ lines_of (drop_through 10 (x ∷ xs))) × (length (drop_through 10 (x ∷ xs)) < length (x ∷ xs))
    feed p =
        let (front, rest, lacks, e) = p in
        let line : line_of (x ∷ xs) ≡ front = ap line_of e ∙ ap (strip_last 10) (take_through-append 10 front (10 ∷ rest) lacks) ∙ feed_stripped front in
        let dropped : drop_through 10 (x ∷ xs) ≡ rest = ap (drop_through 10) e ∙ drop_through-append 10 front (10 ∷ rest) lacks in (
          ap lines_of e ∙ lines_feed front rest lacks ∙ ap₂ (λ l r. l ∷ lines_of r) (sym line) (sym dropped),
          omega (arith, ap length dropped, ap length e, length-append front (10 ∷ rest)),
        )

    none : All (λ y. y ≢ 10) (x ∷ xs)
        → (lines_of (x ∷ xs) ≡ line_of (x ∷ xs) ∷ lines_of (drop_through 10 (x ∷ xs))) × (length (drop_through 10 (x ∷ xs)) < length (x ∷ xs))
    none lacks =
        let w = x ∷ xs in
        let same : w ≡ w ++ [] = sym (append-nil w) in
        let line : line_of w ≡ w = ap line_of same ∙ ap (strip_last 10) (take_through-append 10 w [] lacks ∙ append-nil w) ∙ none_stripped w lacks in
        let dropped : drop_through 10 w ≡ [] = ap (drop_through 10) same ∙ drop_through-append 10 w [] lacks in (
          lines_last x xs lacks ∙ ap₂ (λ l r. l ∷ lines_of r) (sym line) (sym dropped),
          omega (arith, ap length dropped),
        )
