-- Arrays that a closure makes, element by element.
use Rattle.std.proofs.Common.{◌≡◌, ℕ, zero, suc, ◌+◌, ◌<◌, ◌≤◌, List, map, length, get_or, sym, ap, ◌∙◌, subst, ⊎_elim, arith}
use Rattle.std.proofs.lemmas.Bool.{cases_eq}
use Rattle.std.proofs.lemmas.List.{ext_get_or, get_or-map, length-map}
use Rattle.std.proofs.lemmas.List.FromFn.{fill_by_all}
use Rattle.std.specs.Array.{IsFromFnResult, IsFromFnResultFrom, IsMapOf, MapsFrom}
use Rattle.std.specs.Fn.{Mut, Called}
use Rattle.std.specs.List.{range_with_len}

module _ {F B : Type 0} (g : Mut F (ℕ × Unit {0}) B) (f : F) (value : ℕ → B) (n : ℕ)
    (gives : (i : ℕ) (y : B) (q : F) → i < n → Called g f (i, tt) y q → (q ≡ f) × (y ≡ value i)) where
  made_at : (ys : List B) (d : B) (i k : ℕ) → i + k ≡ n → IsFromFnResultFrom g f ys i k → (j : ℕ) → i ≤ j → j < n → get_or ys j d ≡ value j
  made_at ys d i zero e made j low high = absurd (omega arith)
  made_at ys d i (suc k) e (q, y, at, called, rest) j low high =
      let kept = gives i y q (omega arith) called in
      ⊎_elim (λ same. ap (λ m. get_or ys m d) same ∙ at.1 d ∙ kept.1 ∙ ap value (sym same))
      (λ other. made_at ys d (i + 1) k (omega arith) (subst (λ p. IsFromFnResultFrom g p ys (i + 1) k) kept.0 rest) j (omega arith) high) (cases_eq j i)

  -- `array::from_fn` gives the closure's value at each index, in turn.
  pub array_made : (ys : List B) (d : B) → IsFromFnResult g f ys n → ys ≡ map value (range_with_len 0 n)
  array_made ys d made = fill_by_all value ys n d made.long (λ k h. made_at ys d 0 n (omega arith) made.each k (omega arith) h)

module _ {F A B : Type 0} (g : Mut F (A × Unit {0}) B) (f : F) (value : A → B) (n : ℕ)
    (gives : (x : A) (y : B) (q : F) → Called g f (x, tt) y q → (q ≡ f) × (y ≡ value x)) where
  mapped_at : (xs : List A) (ys : List B) (c : A) (d : B) (i k : ℕ) → i + k ≡ n → MapsFrom g f xs ys i k
      → (j : ℕ) → i ≤ j → j < n → get_or ys j d ≡ value (get_or xs j c)
  mapped_at xs ys c d i zero e made j low high = absurd (omega arith)
  mapped_at xs ys c d i (suc k) e (q, x, y, from, at, called, rest) j low high =
      let kept = gives x y q called in
      ⊎_elim (λ same. ap (λ m. get_or ys m d) same ∙ at.1 d ∙ kept.1 ∙ ap value (sym (from.1 c) ∙ ap (λ m. get_or xs m c) (sym same)))
      (λ other. mapped_at xs ys c d (i + 1) k (omega arith) (subst (λ p. MapsFrom g p xs ys (i + 1) k) kept.0 rest) j (omega arith) high) (cases_eq j i)

  -- An array's `map` gives the closure's value at each element.
  pub array_mapped : (xs : List A) (ys : List B) (c : A) (d : B) → length xs ≡ n → IsMapOf g f xs ys n → ys ≡ map value xs
  array_mapped xs ys c d long made =
      ext_get_or d ys (map value xs) (made.long ∙ sym (length-map xs value ∙ long))
      (λ j h. mapped_at xs ys c d 0 n (omega arith) made.each j (omega arith) (omega (arith, made.long)) ∙ sym (get_or-map value xs j c d (omega (arith, made.long))))
