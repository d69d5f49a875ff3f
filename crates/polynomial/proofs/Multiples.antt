-- A multiple of a polynomial added to a buffer, coefficient by coefficient.
use Rattle.std.proofs.Common.{◌≡◌, ℕ, zero, suc, ◌+◌, ◌<◌, ◌≤◌, ◌⊎◌, List, ◌∷◌, length, get_or, set, take, drop, length-drop, sym, ap, ◌∙◌, ap₂, inl, inr, arith, suc-add, zero-add as nat_zero_add}
use Rattle.std.proofs.lemmas.Bool.{cases_eq, cases_lt}
use Rattle.std.proofs.lemmas.List.{drop_more, get_or-take}
use Rattle.field.proofs.Ring.{Lawful, ring}
use Rattle.polynomial.specs.Coefficients.{coeff, shift}
use Rattle.polynomial.proofs.Clauses.{clauses}
use Rattle.polynomial.proofs.Entries.{coeff_past, coeff_read, coeff_set_here, coeff_set_other}
use Rattle.polynomial.proofs.Algebra.{shift_below}

module _ {K : Type 0} (F : Lawful K) where
  open F.ops use {nought as 𝟎, sum as ◌⊕◌, product as ◌⊗◌}

  infixl 60 ◌⊕◌
  infixl 70 ◌⊗◌
  -- f·x^k·`by` stands added to `start`, as far as that reaches
  abbrev pub Added : List K → List K → ℕ → K → List K → Type 0
  Added start buffer k f by = (i : ℕ) → i < length start → coeff F.ops buffer i ≡ coeff F.ops start i ⊕ f ⊗ coeff F.ops (shift F.ops k by) i

  -- with f·x^k times the coefficients of `by` from the j-th on still to add, the buffer becomes the sum of `start` and f·x^k·`by`
  abbrev pub Left : List K → List K → ℕ → K → List K → ℕ → Type 0
  Left start buffer k f by j =
      (i : ℕ) → i < length start → coeff F.ops buffer i ⊕ f ⊗ coeff F.ops (shift F.ops (k + j) (drop j by)) i ≡ coeff F.ops start i ⊕ f ⊗ coeff F.ops (shift F.ops k by) i

  -- x^s·(y + x·p) has y in its place s, and x^(s+1)·p has the others
  shift_first : (s : ℕ) (y : K) (p : List K) → coeff F.ops (shift F.ops s (y ∷ p)) s ≡ y
  shift_first zero y p = simp clauses
  shift_first (suc s) y p = simp (clauses, shift_first s y p)

  shift_others : (s i : ℕ) (y : K) (p : List K) → (i ≡ s → ⊥) → coeff F.ops (𝟎 ∷ shift F.ops s p) i ≡ coeff F.ops (shift F.ops s (y ∷ p)) i
  shift_others zero zero y p n = absurd (n (omega arith))
  shift_others zero (suc i) y p n = simp clauses
  shift_others (suc s) zero y p n = simp clauses
  shift_others (suc s) (suc i) y p n = simp clauses (shift_others s i y p (λ e. n (omega arith)))

  pub length_shift : (n : ℕ) (p : List K) → length (shift F.ops n p) ≡ n + length p
  length_shift zero p = simp (clauses, nat_zero_add)
  length_shift (suc n) p = simp (clauses, suc-add) (ap suc (length_shift n p))

  pub add_next : (start buffer by : List K) (k j n : ℕ) (f x y p v : K) → k + j < length buffer → j < length by → j < n
      → x ≡ get_or buffer (k + j) x → y ≡ get_or (take n by) j y → p ≡ f ⊗ y → v ≡ x ⊕ p → Left start buffer k f by j → Left start (set buffer (k + j) v) k f by (j + 1)
  add_next start buffer by k j n f x y p v room within among is_x is_y is_p is_v so_far i h = kept (cases_eq i (k + j)) ∙ so_far i h
    where
      rest : List K
      rest = drop (j + 1) by

      more : coeff F.ops (shift F.ops (k + j) (drop j by)) i ≡ coeff F.ops (shift F.ops (k + j) (y ∷ rest)) i
      more = ap (λ p. coeff F.ops (shift F.ops (k + j) p) i) (drop_more by j y within ∙ ap (λ d. d ∷ rest) (sym (is_y ∙ get_or-take n by j y among)))

      less : coeff F.ops (shift F.ops (k + (j + 1)) rest) i ≡ coeff F.ops (shift F.ops (suc (k + j)) rest) i
      less = let e : k + (j + 1) ≡ suc (k + j) = omega arith in ap (λ s. coeff F.ops (shift F.ops s rest) i) e

      here : coeff F.ops (set buffer (k + j) v) (k + j) ≡ coeff F.ops buffer (k + j) ⊕ f ⊗ y
      here = coeff_set_here F.ops buffer (k + j) v room ∙ is_v ∙ ap₂ ◌⊕◌ (coeff_read F.ops buffer (k + j) x room is_x) is_p

      kept : (i ≡ k + j) ⊎ (i ≡ k + j → ⊥) → coeff F.ops (set buffer (k + j) v) i ⊕ f ⊗ coeff F.ops (shift F.ops (k + (j + 1)) rest) i ≡ coeff F.ops buffer i ⊕ f ⊗ coeff F.ops (shift F.ops (k + j) (drop j by)) i
      kept (inl e) =
          ap₂ (λ t u. t ⊕ f ⊗ u)
          (ap (coeff F.ops (set buffer (k + j) v)) e ∙ here ∙ sym (ap (λ s. coeff F.ops buffer s ⊕ f ⊗ y) e))
          (less ∙ shift_below F (suc (k + j)) rest i (omega arith))
          ∙ (simp ring)
          ∙ sym (ap (λ t. coeff F.ops buffer i ⊕ f ⊗ t) (more ∙ ap (coeff F.ops (shift F.ops (k + j) (y ∷ rest))) e ∙ shift_first (k + j) y rest))
      kept (inr n) = ap₂ (λ t u. t ⊕ f ⊗ u) (coeff_set_other F.ops buffer (k + j) i v n) (less ∙ simp clauses (shift_others (k + j) i y rest n) ∙ sym more)

  pub add_end : (start buffer by : List K) (k j : ℕ) (f : K) → (k + j < length start → length by ≤ j) → Left start buffer k f by j → Added start buffer k f by
  add_end start buffer by k j f ended so_far i h = sym (ap (λ t. coeff F.ops buffer i ⊕ f ⊗ t) (none (cases_lt i (k + j))) ∙ simp ring) ∙ so_far i h
    where
      none : (i < k + j) ⊎ (k + j ≤ i) → coeff F.ops (shift F.ops (k + j) (drop j by)) i ≡ 𝟎
      none (inl l) = shift_below F (k + j) (drop j by) i l
      none (inr l) = coeff_past F.ops _ i (let e = ended (omega arith) in omega (arith, length_shift (k + j) (drop j by), length-drop j by))

  -- where nothing lies beyond `start`, every coefficient is the sum
  pub added_all : (start buffer : List K) (k : ℕ) (f : K) (by : List K) → length buffer ≡ length start → Added start buffer k f by
      → ((i : ℕ) → length start ≤ i → coeff F.ops (shift F.ops k by) i ≡ 𝟎)
      → (i : ℕ) → coeff F.ops buffer i ≡ coeff F.ops start i ⊕ f ⊗ coeff F.ops (shift F.ops k by) i
  added_all start buffer k f by long added past i = go (cases_lt i (length start))
    where
      go : (i < length start) ⊎ (length start ≤ i) → coeff F.ops buffer i ≡ coeff F.ops start i ⊕ f ⊗ coeff F.ops (shift F.ops k by) i
      go (inl h) = added i h
      go (inr h) = coeff_past F.ops buffer i (omega arith) ∙ sym (ap₂ (λ t u. t ⊕ f ⊗ u) (coeff_past F.ops start i h) (past i h) ∙ simp ring)
