-- A list of exponents made from another, and exponents joined to a line.
use Rattle.std.proofs.Common.{◌≡◌, ℕ, ◌+◌, ◌-◌, ◌<◌, List, [], ◌∷◌, ◌++◌, map, length, get_or, take, drop, Option, refl, sym, ap, ◌∙◌, append_assoc, append-nil, arith, length-take-le, length-drop}
use Rattle.std.proofs.lemmas.List.{ext_get_or, get_or-map, length-map, get_or-take, get_or-drop, take_more}
use Rattle.generator.specs.Text.{shown, spaced, joined, line}

-- A list whose elements are f of another's.
pub mapped_each : {A B : Type 0} (f : A → B) (xs : List A) (ys : List B) (d : A) (e : B) → length ys ≡ length xs
    → ((i : ℕ) → i < length ys → get_or ys i e ≡ f (get_or xs i d)) → ys ≡ map f xs
mapped_each f xs ys d e long each = ext_get_or e ys (map f xs) (long ∙ sym (length-map xs f)) (λ i h. each i h ∙ sym (get_or-map f xs i d e (omega arith)))

spaced_push : (ns : List (Option ℕ)) (n : Option ℕ) → spaced (ns ++ n ∷ []) ≡ spaced ns ++ 32 ∷ shown n
unfolding spaced
spaced_push [] n = simp append-nil
spaced_push (m ∷ ns) n = ap (λ t. 32 ∷ (shown m ++ t)) (spaced_push ns n) ∙ ap (λ t. 32 ∷ t) (sym (append_assoc (shown m) (spaced ns) (32 ∷ shown n)))

-- The first exponent.
pub joined_first : (ns : List (Option ℕ)) (d : Option ℕ) → 0 < length ns → shown (get_or ns 0 d) ≡ joined (take 1 ns)
unfolding spaced joined
joined_first [] d some = absurd (omega arith)
joined_first (n ∷ ns) d some = sym (append-nil (shown n))

joined_push : (ns : List (Option ℕ)) (n : Option ℕ) → 0 < length ns → joined (ns ++ n ∷ []) ≡ joined ns ++ 32 ∷ shown n
unfolding joined
joined_push [] n some = absurd (omega arith)
joined_push (m ∷ ns) n some = ap (λ t. shown m ++ t) (spaced_push ns n) ∙ sym (append_assoc (shown m) (spaced ns) (32 ∷ shown n))

-- One exponent more.
pub joined_more : (ns : List (Option ℕ)) (i : ℕ) (d : Option ℕ) (text : List ℕ) → 0 < i → i < length ns → text ≡ joined (take i ns)
    → text ++ 32 ∷ shown (get_or ns i d) ≡ joined (take (i + 1) ns)
joined_more ns i d text some within so_far =
    let long = length-take-le i ns (omega arith) in
    ap (λ t. t ++ 32 ∷ shown (get_or ns i d)) so_far
    ∙ sym (ap joined (take_more ns i d within) ∙ joined_push (take i ns) (get_or ns i d) (omega arith))

-- No exponents.
pub line_none : (ns : List (Option ℕ)) → length ns < 1 → line ns ≡ 10 ∷ []
unfolding joined
line_none [] none = refl
line_none (n ∷ ns) none = absurd (omega arith)

module _ {A : Type 0} (xs : List A) where
  -- All but the first, as a pattern takes them.
  abbrev pub others : List A
  others = take (length xs - 1) (drop 1 xs)

  pub length_others : length others ≡ length xs - 1
  length_others = length-take-le (length xs - 1) (drop 1 xs) (omega (arith, length-drop 1 xs))

  pub read_others : (i : ℕ) (d : A) → i < length others → get_or others i d ≡ get_or xs (i + 1) d
  read_others i d h =
      let e : 1 + i ≡ i + 1 = omega arith in
      get_or-take (length xs - 1) (drop 1 xs) i d (omega (arith, length_others)) ∙ get_or-drop 1 xs i d ∙ ap (λ k. get_or xs k d) e
