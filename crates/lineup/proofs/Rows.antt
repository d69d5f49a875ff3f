-- The first 8 of lists that grow behind.
use Rattle.std.proofs.Common.{◌≡◌, Result, Ok, Err, IsOk, OnOk, OnErr, ℕ, zero, suc, ◌+◌, ◌<◌, ◌≤◌, List, [], ◌∷◌, ◌++◌, length, take, replicate, sym, refl, ap, ◌∙◌, arith}
use Rattle.std.proofs.lemmas.List.{take_all, take-append-le, length-append, append_assoc, append-nil, replicate_more}
use Rattle.arrayvec.specs.ArrayVec.{ArrayVec}
use Rattle.lineup.specs.Kinds.{first_eight}

module _ {A : Type 0} where
  cut_append : (n : ℕ) (a b : List A) → take n (take n a ++ b) ≡ take n (a ++ b)
  cut_append zero a b = refl
  cut_append (suc n) [] b = refl
  cut_append (suc n) (x ∷ a) b = ap (λ l. x ∷ l) (cut_append n a b)

  cut_front : (n : ℕ) (a b : List A) → length a ≡ n → take n (a ++ b) ≡ a
  cut_front n a b e = take-append-le n a b (omega arith) ∙ take_all n a (omega arith)

  -- Growing twice.
  pub eight_more : (a x y : List A) → first_eight (first_eight (a ++ x) ++ y) ≡ first_eight (a ++ (x ++ y))
  unfolding first_eight
  eight_more a x y = cut_append 8 (a ++ x) y ∙ ap (take 8) (append_assoc a x y)

  -- Not growing at all.
  pub eight_same : (a : List A) → length a ≤ 8 → a ≡ first_eight (a ++ [])
  unfolding first_eight
  eight_same a h = sym (take_all 8 a h) ∙ ap (take 8) (sym (append-nil a))

  -- One item more, where there is room.
  pub eight_tried : {E : Type 0} (r : Result (Unit {0}) E) (before after : ArrayVec A) (x : A) → (IsOk r → length before.items < 8)
      → OnOk r (after.items ≡ before.items ++ (x ∷ [])) → OnErr r (after ≡ before) → OnErr r (length before.items ≡ 8)
      → after.items ≡ first_eight (before.items ++ (x ∷ []))
  unfolding first_eight
  eight_tried (Ok u) before after x room ok err full =
      ok ∙ sym (take_all 8 (before.items ++ (x ∷ [])) (omega (arith, length-append before.items (x ∷ []), room refl)))
  eight_tried (Err e) before after x room ok err full = ap (λ v. v.items) err ∙ sym (cut_front 8 before.items (x ∷ []) full)

  pub eight_again : (a b : List A) (i : ℕ) (x : A) → b ≡ first_eight (a ++ replicate i x) → first_eight (b ++ (x ∷ [])) ≡ first_eight (a ++ replicate (i + 1) x)
  eight_again a b i x e =
      ap (λ l. first_eight (l ++ (x ∷ []))) e ∙ eight_more a (replicate i x) (x ∷ []) ∙ ap (λ l. first_eight (a ++ l)) (replicate_more i x)
