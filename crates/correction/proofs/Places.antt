-- The search over the places: what holds before each, and at the next.
use Rattle.std.proofs.Common.{◌≡◌, ℕ, suc, ◌+◌, ◌<◌, ◌≤◌, ◌⊎◌, List, [], ◌∷◌, length, get_or, take, set, Some, None, Option, sym, ap, ◌∙◌, subst, ap₂, inl, inr, add-one, arith}
use Rattle.std.proofs.lemmas.Bool.{cases_lt}
use Rattle.field.specs.Field.{power, alpha_power}
use Rattle.field.specs.Polynomial.{value}
use Rattle.field.proofs.Ring.{Lawful, ring, mul_assoc, zero_mul, mul_one}
use Rattle.polynomial.specs.Coefficients.{coeff}
use Rattle.polynomial.proofs.Clauses.{clauses, values, value_cons, coeff_zero, coeff_suc, coeff_nil, power_zero, power_suc}
use Rattle.polynomial.proofs.Entries.{coeff_read}
use Rattle.polynomial.proofs.Algebra.{value_same}
use Rattle.polynomial.proofs.Powers.{power_mul, power_one}
use Rattle.code.specs.Code.{Code, gamma_power}
use Rattle.locator.specs.Applied.{applied, deflated}
use Rattle.locator.specs.Correction.{locator, syndrome, Syndromes, Repaired}
use Rattle.locator.proofs.Buffers.{same_take}
use Rattle.locator.proofs.Changes.{root_parts, syndrome_set}
use Rattle.locator.proofs.Repairs.{repaired_mended, error_by}
use Rattle.correction.specs.Correcting.{Error, AddedPowers, Told}

module _ {K : Type 0} (F : Lawful K) where
  open F.ops use {nought as 𝟎, unit as 𝟏, sum as ◌⊕◌, product as ◌⊗◌}

  infixl 60 ◌⊕◌
  infixl 70 ◌⊗◌
  joined : (y a x v : K) → y ⊗ a ⊕ y ⊗ x ⊗ v ≡ y ⊗ (a ⊕ x ⊗ v)
  joined y a x v = simp ring

  deeper : (y a x p : K) → y ⊗ (a ⊗ (x ⊗ p)) ≡ y ⊗ x ⊗ (a ⊗ p)
  deeper y a x p = simp ring

  -- the sum of the terms y·p_j·x^j is y·p(x)
  terms_value : (p q : List K) (x y : K) → ((j : ℕ) → coeff F.ops q j ≡ y ⊗ (coeff F.ops p j ⊗ power F.ops x j)) → value F.ops q 𝟏 ≡ y ⊗ value F.ops p x
  unfolding coeff
  terms_value [] [] x y h = simp (values, ring)
  terms_value [] (b ∷ q) x y h =
      simp (values, ring, simp (clauses, ring) at (h 0), terms_value [] q x y (λ j. sym (coeff_suc F.ops b q j) ∙ h (suc j) ∙ simp (clauses, ring)))
  terms_value (a ∷ p) [] x y h =
      terms_value p [] x (y ⊗ x) (λ j. coeff_nil F.ops j ∙ sym (coeff_nil F.ops (suc j)) ∙ h (suc j) ∙ ap₂ (λ s t. y ⊗ (s ⊗ t)) (coeff_suc F.ops a p j) (power_suc F.ops x j) ∙ deeper y (coeff F.ops p j) x (power F.ops x j))
      ∙ sym (ap (λ t. y ⊗ t) (value_cons F a p x) ∙ sym (joined y a x (value F.ops p x)) ∙ ap (λ t. t ⊕ y ⊗ x ⊗ value F.ops p x) none ∙ simp ring)
    where
      none : y ⊗ a ≡ 𝟎
      none = sym (sym (coeff_nil F.ops 0) ∙ h 0 ∙ ap₂ (λ s t. y ⊗ (s ⊗ t)) (coeff_zero F.ops a p) (power_zero F.ops x) ∙ ap (λ t. y ⊗ t) (mul_one F a))
  terms_value (a ∷ p) (b ∷ q) x y h =
      value_cons F b q 𝟏
      ∙ ap₂ (λ s t. s ⊕ 𝟏 ⊗ t)
      (sym (coeff_zero F.ops b q) ∙ h 0 ∙ ap₂ (λ s t. y ⊗ (s ⊗ t)) (coeff_zero F.ops a p) (power_zero F.ops x) ∙ ap (λ t. y ⊗ t) (mul_one F a))
      (terms_value p q x (y ⊗ x) (λ j. sym (coeff_suc F.ops b q j) ∙ h (suc j) ∙ ap₂ (λ s t. y ⊗ (s ⊗ t)) (coeff_suc F.ops a p j) (power_suc F.ops x j) ∙ deeper y (coeff F.ops p j) x (power F.ops x j)))
      ∙ ap (λ t. y ⊗ a ⊕ t) (F.laws.product_unit _)
      ∙ joined y a x (value F.ops p x)
      ∙ ap (λ t. y ⊗ t) (sym (value_cons F a p x))

  stepped : (g p a : K) → g ⊗ (p ⊗ a) ≡ p ⊗ (g ⊗ a)
  stepped g p a = simp ring

  kept : (a z s p : K) → z ≡ 𝟎 → a ≡ a ⊕ z ⊗ s ⊗ p
  kept a z s p e = sym (ap (λ u. a ⊕ u ⊗ s ⊗ p) e ∙ gone)
    where
      gone : a ⊕ 𝟎 ⊗ s ⊗ p ≡ a
      gone = simp ring

  module _ (c : Code) (poly : List K) where
    -- what the search holds before place i
    pub record AtPlace (terms : List K) (x scale : K) (i : ℕ) : Type 0 where
      pub x_is : x ≡ locator F.ops c i
      pub scale_is : scale ≡ power F.ops (locator F.ops c i) c.first
      pub terms_are : (j : ℕ) → coeff F.ops terms j ≡ coeff F.ops poly j ⊗ power F.ops x j

    pub first_place : (x scale : K) → x ≡ 𝟏 → scale ≡ 𝟏 → AtPlace poly x scale 0
    first_place x scale x_one scale_one = record {
      x_is = x_one ∙ sym (power_zero F.ops _);
      scale_is = scale_one ∙ sym (ap (λ t. power F.ops t c.first) (power_zero F.ops _) ∙ power_one F c.first);
      terms_are = λ j. sym (ap (λ t. coeff F.ops poly j ⊗ t) (ap (λ t. power F.ops t j) x_one ∙ power_one F j) ∙ mul_one F _);
    }

    module _ (terms : List K) (x scale : K) (i : ℕ) (now_held : AtPlace terms x scale i) (n : ℕ) (above : (k : ℕ) → n ≤ k → coeff F.ops poly k ≡ 𝟎) where
      pub terms_above : (j : ℕ) → n ≤ j → coeff F.ops terms j ≡ 𝟎
      terms_above j h = now_held.terms_are j ∙ ap (λ t. t ⊗ power F.ops x j) (above j h) ∙ zero_mul F _

      -- the sum of the first n terms is the polynomial's value
      pub value_there : (v : K) → v ≡ value F.ops (take n terms) 𝟏 → v ≡ value F.ops poly (locator F.ops c i)
      value_there v v_is =
          v_is ∙ value_same F (take n terms) terms (same_take F terms n terms_above) 𝟏
          ∙ terms_value poly terms x 𝟏 (λ j. now_held.terms_are j ∙ sym (F.laws.product_unit _)) ∙ F.laws.product_unit _
          ∙ ap (value F.ops poly) now_held.x_is

      pub next_place : (steps terms' : List K) (gamma lead x' scale' : K) → ((j : ℕ) → j < n → coeff F.ops steps j ≡ power F.ops gamma j)
          → gamma ≡ alpha_power F.ops c.step → lead ≡ gamma_power F.ops c c.first
          → ((j : ℕ) → j < n → coeff F.ops terms' j ≡ coeff F.ops steps j ⊗ coeff F.ops terms j) → ((j : ℕ) → n ≤ j → coeff F.ops terms' j ≡ coeff F.ops terms j)
          → x' ≡ gamma ⊗ x → scale' ≡ lead ⊗ scale → AtPlace terms' x' scale' (i + 1)
      next_place steps terms' gamma lead x' scale' steps_are gamma_is lead_is told rest x_told scale_told =
          subst (AtPlace terms' x' scale') (sym (add-one i)) (record { x_is = next_x; scale_is = next_scale; terms_are = λ j. next_terms j (cases_lt j n) })
        where
          next_x : x' ≡ locator F.ops c (suc i)
          next_x = x_told ∙ ap₂ ◌⊗◌ gamma_is now_held.x_is ∙ sym (power_suc F.ops _ i)

          next_scale : scale' ≡ power F.ops (locator F.ops c (suc i)) c.first
          next_scale =
              scale_told ∙ ap₂ ◌⊗◌ lead_is now_held.scale_is
              ∙ sym (ap (λ y. power F.ops y c.first) (power_suc F.ops _ i) ∙ power_mul F _ _ c.first)

          next_terms : (j : ℕ) → (j < n) ⊎ (n ≤ j) → coeff F.ops terms' j ≡ coeff F.ops poly j ⊗ power F.ops x' j
          next_terms j (inl h) =
              told j h ∙ ap₂ ◌⊗◌ (steps_are j h) (now_held.terms_are j)
              ∙ stepped (power F.ops gamma j) (coeff F.ops poly j) (power F.ops x j)
              ∙ ap (λ t. coeff F.ops poly j ⊗ t) (sym (ap (λ y. power F.ops y j) x_told ∙ power_mul F gamma x j))
          next_terms j (inr h) = rest j h ∙ terms_above j h ∙ sym (ap (λ t. t ⊗ power F.ops x' j) (above j h) ∙ zero_mul F _)

    module _ (t : ℕ → K) (x scale : K) (i : ℕ) (x_is : x ≡ locator F.ops c i) (scale_is : scale ≡ power F.ops (locator F.ops c i) c.first) (v : K) (v_is : v ≡ value F.ops poly (locator F.ops c i))
        (left : List K) where
      -- no root: there is no error
      pub told_none : (z : K) → z ≡ 𝟎 → (v ≡ 𝟎 → ⊥) → Told F.ops c poly t i left left (Some z)
      told_none z z_is other = (record { none = λ _. z_is; some = λ root. absurd (other (v_is ∙ root)) }, λ k h. kept (coeff F.ops left k) z _ _ z_is)

      -- a double root
      pub told_double : v ≡ 𝟎 → Error F.ops poly x scale t None → Told F.ops c poly t i left left None
      told_double root double = record {
        i = i;
        once = sym v_is ∙ root;
        again = ap₂ (λ y z. value F.ops (deflated F.ops y poly) y ⊗ z) (sym x_is) (sym scale_is) ∙ double;
      }

      pub told_error : (e y : K) (left' : List K) → length left ≡ c.checks → v ≡ 𝟎 → Error F.ops poly x scale t (Some e) → y ≡ e ⊗ scale → AddedPowers F.ops y x left left' → Told F.ops c poly t i left left' (Some e)
      told_error e y left' long root error y_is added = (
        error_by F c t poly poly i e (e ⊗ scale) (sym v_is ∙ root)
            (subst (λ y. e ⊗ scale ⊗ value F.ops (deflated F.ops y poly) y ≡ applied F.ops (deflated F.ops y poly) t 0) x_is error)
            (ap (λ z. e ⊗ z) (sym scale_is)),
        λ k h. added k (omega arith) ∙ ap₂ (λ y z. coeff F.ops left k ⊕ y ⊗ power F.ops z k) (y_is ∙ ap (λ z. e ⊗ z) scale_is) x_is,
      )

  -- what is told of one polynomial, sequence and place is told of the same ones
  pub told_same : (c : Code) (poly' poly syndromes' syndromes left' left after : List K) (i' i : ℕ) (r' r : Option K) → poly' ≡ poly → syndromes' ≡ syndromes → left' ≡ left → i' ≡ i → r ≡ r'
      → Told F.ops c poly' (coeff F.ops syndromes') i' left' after r' → Told F.ops c poly (coeff F.ops syndromes) i left after r
  told_same c poly' poly syndromes' syndromes left' left after i' i r' r e f h j k told =
      subst (Told F.ops c poly (coeff F.ops syndromes) i left after) (sym k)
      (subst (λ n. Told F.ops c poly (coeff F.ops syndromes) n left after r') j
      (subst (λ l. Told F.ops c poly (coeff F.ops syndromes) i' l after r') h
      (subst (λ s. Told F.ops c poly (coeff F.ops s) i' left' after r') f
      (subst (λ p. Told F.ops c p (coeff F.ops syndromes') i' left' after r') e told))))

  module _ (c : Code) (poly : List K) where
    module _ (t : ℕ → K) (received first_left word left left' : List K) (i : ℕ) (a e v : K) (a_is : a ≡ get_or word i a) (v_is : v ≡ a ⊕ e) (inside : i < length word) (told : Told F.ops c poly t i left left' (Some e)) where
      here : set word i (a ⊕ e) ≡ set word i v
      here = ap (set word i) (sym v_is)

      at : a ≡ coeff F.ops word i
      at = coeff_read F.ops word i a inside a_is

      -- the error is taken off the word
      pub repaired_next : Repaired F.ops c t poly i received word → Repaired F.ops c t poly (i + 1) received (set word i v)
      repaired_next so_far =
          subst (λ n. Repaired F.ops c t poly n received (set word i v)) (sym (add-one i))
          (subst (Repaired F.ops c t poly (suc i) received) here (repaired_mended F c t poly received i word so_far inside a e at told.0))

      -- and off its running syndromes
      pub running_next : (Syndromes F.ops c received (coeff F.ops first_left) → Syndromes F.ops c word (coeff F.ops left))
          → Syndromes F.ops c received (coeff F.ops first_left) → Syndromes F.ops c (set word i v) (coeff F.ops left')
      running_next so_far at_first k h =
          told.1 k h
          ∙ ap₂ ◌⊕◌ (so_far at_first k h) (mul_assoc F e _ _ ∙ ap (λ b. e ⊗ b) (sym (root_parts F c k i)))
          ∙ sym (ap (λ w. syndrome F.ops c w k) (sym here) ∙ syndrome_set F c word i k a e inside at)
