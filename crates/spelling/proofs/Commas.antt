-- A list's text, one element more or less.
use Rattle.std.proofs.Common.{◌≡◌, ℕ, ◌+◌, ◌<◌, List, [], ◌∷◌, ◌++◌, length, get_or, take, sym, refl, ap, ◌∙◌, append_assoc, append-nil, arith, length-append}
use Rattle.std.proofs.lemmas.List.{take_more}
use Rattle.std.specs.Str.Iter.{LacksByte}
use Rattle.spelling.specs.Lists.{Single, others, written_list, NoList}
use Rattle.tokens.specs.Words.{Plain}
use Rattle.tokens.proofs.Blanks.{cut_once, no_cut, lacks_cons, lacks_append, lacks_told}

module _ {A : Type 0} (written : A → List ℕ) where
  -- each with a comma behind it
  abbrev pub heads : List A → List ℕ
  heads [] = []
  heads (x ∷ xs) = written x ++ 44 ∷ heads xs

  heads_push : (xs : List A) (x : A) → heads (xs ++ x ∷ []) ≡ heads xs ++ (written x ++ 44 ∷ [])
  heads_push [] x = refl
  heads_push (y ∷ xs) x = ap (λ l. written y ++ 44 ∷ l) (heads_push xs x) ∙ sym (append_assoc (written y) (44 ∷ heads xs) (written x ++ 44 ∷ []))

  others_ends : (xs : List A) (y : A) → others written (xs ++ y ∷ []) ≡ 44 ∷ heads xs ++ written y
  others_ends [] y = ap (λ l. 44 ∷ l) (append-nil (written y))
  others_ends (x ∷ xs) y = ap (λ l. 44 ∷ written x ++ l) (others_ends xs y) ∙ sym (ap (λ l. 44 ∷ l) (append_assoc (written x) (44 ∷ heads xs) (written y)))

  list_ends : (xs : List A) (y : A) → written_list written (xs ++ y ∷ []) ≡ heads xs ++ written y
  list_ends [] y = append-nil (written y)
  list_ends (x ∷ xs) y = ap (λ l. written x ++ l) (others_ends xs y) ∙ sym (append_assoc (written x) (44 ∷ heads xs) (written y))

  -- reading: one element more, and the last
  pub read_more : (xs ys : List A) (x : A) (text first rest t : List ℕ) → heads xs ++ text ≡ t → text ≡ first ++ 44 ∷ rest → first ≡ written x → ys ≡ xs ++ x ∷ [] → heads ys ++ rest ≡ t
  read_more xs ys x text first rest t sofar cut is put =
      ap (λ v. heads v ++ rest) put
      ∙ ap (λ v. v ++ rest) (heads_push xs x)
      ∙ append_assoc (heads xs) (written x ++ 44 ∷ []) rest
      ∙ ap (λ l. heads xs ++ l) (append_assoc (written x) (44 ∷ []) rest ∙ ap (λ w. w ++ 44 ∷ rest) (sym is) ∙ sym cut)
      ∙ sofar

  pub read_last : (xs ys : List A) (y : A) (text t : List ℕ) → heads xs ++ text ≡ t → text ≡ written y → ys ≡ xs ++ y ∷ [] → t ≡ written_list written ys
  read_last xs ys y text t sofar is put = sym sofar ∙ ap (λ l. heads xs ++ l) is ∙ sym (list_ends xs y) ∙ ap (written_list written) (sym put)

  -- writing: one element more
  others_push : (xs : List A) (x : A) → others written (xs ++ x ∷ []) ≡ others written xs ++ (44 ∷ written x)
  others_push [] x = ap (λ l. 44 ∷ l) (append-nil (written x))
  others_push (y ∷ xs) x = ap (λ l. 44 ∷ written y ++ l) (others_push xs x) ∙ sym (append_assoc (44 ∷ written y) (others written xs) (44 ∷ written x))

  pub write_more : (rest : List A) (i : ℕ) (x : A) (before t comma t1 t2 : List ℕ) → i < length rest → x ≡ get_or rest i x → t ≡ before ++ others written (take i rest) → comma ≡ 44 ∷ [] → t1 ≡ t ++ comma → t2 ≡ t1 ++ written x → t2 ≡ before ++ others written (take (i + 1) rest)
  write_more rest i x before t comma t1 t2 within is sofar separates one two =
      let put : take (i + 1) rest ≡ take i rest ++ x ∷ [] = take_more rest i x within ∙ ap (λ y. take i rest ++ y ∷ []) (sym is) in
      two
      ∙ ap (λ l. l ++ written x) (one ∙ ap (λ l. t ++ l) separates)
      ∙ append_assoc t (44 ∷ []) (written x)
      ∙ ap (λ l. l ++ (44 ∷ written x)) sofar
      ∙ append_assoc before (others written (take i rest)) (44 ∷ written x)
      ∙ ap (λ l. before ++ l) (sym (others_push (take i rest) x) ∙ ap (others written) (sym put))

  module _ (plain : (x : A) → Single (written x)) where
    -- what is left of a list's text behind whole elements is a list's text
    left : (xs : List A) (y : A) (ys : List A) (rest : List ℕ) → heads xs ++ rest ≡ written_list written (y ∷ ys) → (z : A) × (zs : List A) × (rest ≡ written_list written (z ∷ zs))
    left [] y ys rest e = (y, ys, e)
    left (x ∷ xs) y [] rest e = absurd (no_cut 44 (written y) (written x) (heads xs ++ rest) (plain y).no_comma (sym (append-nil (written y)) ∙ sym e ∙ append_assoc (written x) (44 ∷ heads xs) rest))
    left (x ∷ xs) y (z ∷ zs) rest e = left xs z zs rest (cut_once 44 (written x) (heads xs ++ rest) (written y) (written z ++ others written zs) (plain x).no_comma (plain y).no_comma (sym (append_assoc (written x) (44 ∷ heads xs) rest) ∙ e)).1

    not_first : (first more : List ℕ) → LacksByte 44 first → ((x : A) → first ≡ written x → ⊥) → (z : A) (zs : List A) → first ++ 44 ∷ more ≡ written_list written (z ∷ zs) → ⊥
    not_first first more lacks none z [] e = no_cut 44 (written z) first more (plain z).no_comma (sym (append-nil (written z)) ∙ sym e)
    not_first first more lacks none z (w ∷ zs) e = none z (cut_once 44 first more (written z) (written w ++ others written zs) lacks (plain z).no_comma e).0

    not_only : (rest : List ℕ) → LacksByte 44 rest → ((x : A) → rest ≡ written x → ⊥) → (z : A) (zs : List A) → rest ≡ written_list written (z ∷ zs) → ⊥
    not_only rest lacks none z [] e = none z (e ∙ append-nil (written z))
    not_only rest lacks none z (w ∷ zs) e = no_cut 44 rest (written z) (written w ++ others written zs) lacks e

    -- an element that is refused, before a comma and at the end
    pub refused_first : (xs : List A) (text first more t : List ℕ) → heads xs ++ text ≡ t → (t ≡ 45 ∷ [] → ⊥) → text ≡ first ++ 44 ∷ more → LacksByte 44 first → ((x : A) → first ≡ written x → ⊥) → NoList written t
    refused_first xs text first more t sofar no_dash cut lacks none [] e = no_dash e
    refused_first xs text first more t sofar no_dash cut lacks none (y ∷ ys) e =
        let p = left xs y ys text (sofar ∙ e) in
        not_first first more lacks none p.0 p.1 (sym cut ∙ p.2)

    pub refused_last : (xs : List A) (text t : List ℕ) → heads xs ++ text ≡ t → (t ≡ 45 ∷ [] → ⊥) → LacksByte 44 text → ((x : A) → text ≡ written x → ⊥) → NoList written t
    refused_last xs text t sofar no_dash lacks none [] e = no_dash e
    refused_last xs text t sofar no_dash lacks none (y ∷ ys) e =
        let p = left xs y ys text (sofar ∙ e) in
        not_only text lacks none p.0 p.1 p.2

    plain_others : (xs : List A) → LacksByte 32 (others written xs)
    plain_others [] = λ k lt e. omega arith
    plain_others (x ∷ xs) = lacks_cons 32 44 (written x ++ others written xs) (λ e. omega arith) (lacks_append 32 (written x) (others written xs) (plain x).no_blank (plain_others xs))

    -- a list as text is one word
    pub plain_list : (xs : List A) → Plain (written_list written xs)
    plain_list [] = (omega arith, lacks_told (45 ∷ []) refl)
    plain_list (x ∷ xs) = (omega (arith, length-append (written x) (others written xs), (plain x).some), lacks_append 32 (written x) (others written xs) (plain x).no_blank (plain_others xs))

-- what may stand in a list is a word
pub one_word : {w : List ℕ} → Single w → Plain w
one_word s = (s.some, s.no_blank)
