-- The turns of the search for the shortest recurrence in buffers of fixed length, with zeros on top.
use Rattle.std.proofs.Common.{◌≡◌, ℕ, zero, suc, ◌+◌, ◌-◌, ◌<◌, ◌≤◌, ◌⊎◌, List, [], ◌∷◌, length, take, sym, refl, ap, ◌∙◌, subst, ap₂, inl, inr, add-one, arith}
use Rattle.std.proofs.lemmas.Bool.{cases_lt}
use Rattle.field.proofs.Ring.{Lawful}
use Rattle.polynomial.specs.Coefficients.{coeff, Same, plus, scale, shift, Monic}
use Rattle.polynomial.proofs.Clauses.{clauses, coeff_plus, coeff_scale}
use Rattle.polynomial.proofs.Entries.{coeff_past, coeff_take}
use Rattle.polynomial.proofs.Algebra.{shift_above, shift_below}
use Rattle.locator.specs.Applied.{applied}
use Rattle.locator.specs.Recurrence.{Recurrence}
use Rattle.locator.proofs.Turns.{alike, kept, mended, grown}

module _ {K : Type 0} (F : Lawful K) where
  open F.ops use {nought as 𝟎, sum as ◌⊕◌, product as ◌⊗◌}

  infixl 60 ◌⊕◌
  infixl 70 ◌⊗◌
  coeff_take_past : (p : List K) (m i : ℕ) → m ≤ i → coeff F.ops (take m p) i ≡ 𝟎
  coeff_take_past [] zero i l = simp clauses
  coeff_take_past [] (suc m) i l = simp clauses
  coeff_take_past (a ∷ p) zero i l = simp clauses
  coeff_take_past (a ∷ p) (suc m) zero l = absurd (omega arith)
  coeff_take_past (a ∷ p) (suc m) (suc i) l = simp (clauses, coeff_take_past p m i (omega arith))

  -- the coefficients from x^m on may be left out where they are zero
  pub same_take : (p : List K) (m : ℕ) → ((i : ℕ) → m ≤ i → coeff F.ops p i ≡ 𝟎) → Same F.ops (take m p) p
  same_take p m above i = go (cases_lt i m)
    where
      go : (i < m) ⊎ (m ≤ i) → coeff F.ops (take m p) i ≡ coeff F.ops p i
      go (inl l) = coeff_take F.ops p m i l
      go (inr l) = coeff_take_past p m i l ∙ sym (above i l)

  -- the coefficients of x^n·p from x^n on
  pub shift_from : (n : ℕ) (p : List K) (i : ℕ) → n ≤ i → coeff F.ops (shift F.ops n p) i ≡ coeff F.ops p (i - n)
  shift_from n p i l = let at : i ≡ n + (i - n) = omega arith in ap (coeff F.ops (shift F.ops n p)) at ∙ shift_above F n p (i - n)

  pub same_shift : (n : ℕ) (p q : List K) → Same F.ops p q → Same F.ops (shift F.ops n p) (shift F.ops n q)
  same_shift n p q s i = go (cases_lt i n)
    where
      go : (i < n) ⊎ (n ≤ i) → coeff F.ops (shift F.ops n p) i ≡ coeff F.ops (shift F.ops n q) i
      go (inl l) = shift_below F n p i l ∙ sym (shift_below F n q i l)
      go (inr l) = shift_from n p i l ∙ s (i - n) ∙ sym (shift_from n q i l)

  -- a buffer longer than the degree, with the coefficients of a monic polynomial, is that polynomial
  buffered : (after : List K) (m : ℕ) (p : List K) → Monic F.ops p m → m < length after → ((i : ℕ) → i < length after → coeff F.ops after i ≡ coeff F.ops p i) → Same F.ops after p
  buffered after m p h room each i = go (cases_lt i (length after))
    where
      go : (i < length after) ⊎ (length after ≤ i) → coeff F.ops after i ≡ coeff F.ops p i
      go (inl l) = each i l
      go (inr l) = coeff_past F.ops after i l ∙ sym (h.above i (omega arith))

  told : (p q : List K) (c : K) (i : ℕ) → coeff F.ops (plus F.ops p (scale F.ops c q)) i ≡ coeff F.ops p i ⊕ c ⊗ coeff F.ops q i
  told p q c i = simp (coeff_plus, coeff_scale)

  module _ (t : ℕ → K) (k : ℕ) (poly : List K) (degree : ℕ) (old : List K) (miss : K) (r : Recurrence F.ops t k poly degree old miss) where
    pub turn_kept : applied F.ops poly t (k - degree) ≡ 𝟎 → Recurrence F.ops t (k + 1) poly degree old miss
    turn_kept z = subst (λ n. Recurrence F.ops t n poly degree old miss) (sym (add-one k)) (kept F t k poly degree old miss r z)

    module _ (d : K) (is : d ≡ applied F.ops poly t (k - degree)) (quotient : K) (by : quotient ⊗ miss ≡ d) where
      -- `part` is the old recurrence, perhaps without zeros on top
      pub turn_mended : (up : ℕ) → up + (k + 1) ≡ degree + degree → (part : List K) → Same F.ops part old → (after : List K) → degree < length after
          → ((i : ℕ) → i < length after → coeff F.ops after i ≡ coeff F.ops poly i ⊕ quotient ⊗ coeff F.ops (shift F.ops up part) i)
          → Recurrence F.ops t (k + 1) after degree old miss
      turn_mended up e part same after room each =
          let at : up ≡ degree + degree - suc k = omega arith in
          let next = mended F t k poly degree old miss r d is (omega arith) quotient by in
          subst (λ n. Recurrence F.ops t n after degree old miss) (sym (add-one k))
          (next after (buffered after degree _ (next _ (λ i. refl)).monic room
          (λ i l. each i l ∙ ap (λ s. coeff F.ops poly i ⊕ quotient ⊗ s) (same_shift up part old same i ∙ ap (λ n. coeff F.ops (shift F.ops n old) i) at) ∙ sym (told poly _ quotient i))))

      -- `whole` and `part` are the recurrence and the old one, perhaps without zeros on top, and `kept-old` is what stands for the old one from then on
      pub turn_grown : (d ≡ 𝟎 → ⊥) → degree + degree ≤ k → (up degree' : ℕ) → up + (degree + degree) ≡ k + 1 → degree' + degree ≡ k + 1
          → (whole part kept_old : List K) → Same F.ops whole poly → Same F.ops part old → Same F.ops poly kept_old → (after : List K) → degree' < length after
          → ((i : ℕ) → i < length after → coeff F.ops after i ≡ coeff F.ops (shift F.ops up whole) i ⊕ quotient ⊗ coeff F.ops part i)
          → Recurrence F.ops t (k + 1) after degree' kept_old d
      turn_grown some short up degree' e e' whole part kept_old same same' same'' after room each =
          let at : up ≡ suc k - (degree + degree) = omega arith in
          let to : suc k - degree ≡ degree' = omega arith in
          let next = grown F t k poly degree old miss r d is some short quotient by in
          let long : suc k - degree < length after = omega arith in
          let found = next after (buffered after (suc k - degree) _ (next _ (λ i. refl)).monic long
          (λ i l. each i l ∙ ap₂ (λ s u. s ⊕ quotient ⊗ u) (same_shift up whole poly same i ∙ ap (λ n. coeff F.ops (shift F.ops n poly) i) at) (same' i) ∙ sym (told _ old quotient i))) in
          alike F t (k + 1) after degree' poly d (subst (λ n. Recurrence F.ops t n after degree' poly d) (sym (add-one k)) (subst (λ n. Recurrence F.ops t (suc k) after n poly d) to found))
          after kept_old (λ i. refl) same''
