-- Reciprocals as code has them, and the start of the search for the shortest recurrence in buffers.
use Rattle.std.proofs.Common.{◌≡◌, ℕ, zero, suc, ◌+◌, ◌-◌, ◌<◌, ◌≤◌, ◌⊎◌, List, [], ◌∷◌, ◌++◌, length, take, drop, set, Some, None, Option, IsSome, Bool, Decides, sym, refl, ap, ap₂, ◌∙◌, subst, inl, inr, arith, length-drop}
use Rattle.std.proofs.lemmas.Bool.{cases_lt}
use Rattle.std.proofs.lemmas.Bool.Decides.{Decides-at, Decides-like}
use Rattle.std.proofs.lemmas.List.{get_or_append_left, get_or-append_right}
use Rattle.field.proofs.Ring.{Lawful, ring}
use Rattle.polynomial.specs.Coefficients.{coeff, shift, Nought}
use Rattle.polynomial.proofs.Clauses.{clauses}
use Rattle.polynomial.proofs.Algebra.{shift_below}
use Rattle.polynomial.proofs.Entries.{coeff_take, coeff_set_here, coeff_set_other}
use Rattle.locator.specs.Applied.{applied}
use Rattle.locator.specs.Recurrence.{Recurrence}
use Rattle.locator.proofs.Quotients.{coeff_drop}
use Rattle.locator.proofs.Buffers.{shift_from}
use Rattle.locator.proofs.Locating.{decided}
use Rattle.locator.proofs.Turns.{start, alike}
use Rattle.correction.proofs.Rows.{applied_moved}

module _ {K : Type 0} (F : Lawful K) where
  open F.ops use {nought as 𝟎, unit as 𝟏, sum as ◌⊕◌, product as ◌⊗◌}

  infixl 60 ◌⊕◌
  infixl 70 ◌⊗◌
  unlike : (y : K) → None ≡ Some y → ⊥
  unlike y p = let z : ◌≡◌ {A = ℕ} 0 1 = cc in omega arith

  -- what `x == z` tells where z is zero
  pub tested : (x z : K) (test : Bool) → test ≡ F.ops.same x z → z ≡ 𝟎 → Decides test (x ≡ 𝟎)
  tested x z test e zero_is = Decides-at test (F.ops.same x z) e (Decides-like (F.ops.same x z) (λ p. p ∙ zero_is) (λ p. p ∙ sym zero_is) (F.laws.sameness x z))

  -- only zero has no reciprocal
  pub none_of : (x : K) → None ≡ F.ops.reciprocal x → x ≡ 𝟎
  none_of x e = go (decided F x 𝟎)
    where
      go : (x ≡ 𝟎) ⊎ (x ≡ 𝟎 → ⊥) → x ≡ 𝟎
      go (inl z) = z
      go (inr n) = let r = F.laws.has_reciprocal x n in absurd (unlike r.0 (e ∙ r.1))

  pub some_of : (x y : K) → Some y ≡ F.ops.reciprocal x → x ⊗ y ≡ 𝟏
  some_of x y e = go (decided F x 𝟎)
    where
      go : (x ≡ 𝟎) ⊎ (x ≡ 𝟎 → ⊥) → x ⊗ y ≡ 𝟏
      go (inl z) = absurd (unlike y (sym F.laws.no_reciprocal ∙ ap F.ops.reciprocal (sym z) ∙ sym e))
      go (inr n) =
          let r = F.laws.has_reciprocal x n in
          let same : y ≡ r.0 = (let z : Some y ≡ Some r.0 = e ∙ r.1 in cc) in
          ap (λ t. x ⊗ t) same ∙ r.2

  -- what is not zero has a reciprocal
  pub some_reciprocal : (x : K) (r : Option K) → (x ≡ 𝟎 → ⊥) → r ≡ F.ops.reciprocal x → IsSome r
  some_reciprocal x r n e = let h = F.laws.has_reciprocal x n in subst IsSome (sym (e ∙ h.1)) refl

  -- what the recurrence gives at the next place, told by the part of the sequence that it reads there
  pub read_part : (t : List K) (k : ℕ) (poly : List K) (degree : ℕ) (old : List K) (miss d : K) → Recurrence F.ops (coeff F.ops t) k poly degree old miss
      → d ≡ applied F.ops poly (coeff F.ops (take (k + 1 - (k - degree)) (drop (k - degree) t))) 0 → d ≡ applied F.ops poly (coeff F.ops t) (k - degree)
  read_part t k poly degree old miss d r e = e ∙ applied_moved F poly _ _ 0 (k - degree) (λ i m n at_m at_n. same i m n at_m at_n (cases_lt degree i))
    where
      within : degree ≤ k
      within = r.within

      same : (i m n : ℕ) → m ≡ 0 + i → n ≡ k - degree + i → (degree < i) ⊎ (i ≤ degree)
          → coeff F.ops poly i ⊗ coeff F.ops (take (k + 1 - (k - degree)) (drop (k - degree) t)) m ≡ coeff F.ops poly i ⊗ coeff F.ops t n
      same i m n at_m at_n (inl h) = let none = r.monic.above i h in simp (none, ring)
      same i m n at_m at_n (inr h) =
          let e : k - degree + m ≡ n = omega arith in
          ap (λ a. coeff F.ops poly i ⊗ a) (coeff_take F.ops (drop (k - degree) t) _ m (omega arith) ∙ coeff_drop F (k - degree) t m ∙ ap (coeff F.ops t) e)

  -- a buffer whose last places are zero, turned by as many, is the polynomial times that power of x
  pub turned : (poly : List K) (up i : ℕ) → up ≤ length poly → ((j : ℕ) → length poly ≤ j + up → coeff F.ops poly j ≡ 𝟎) → i < length poly
      → coeff F.ops (drop (length poly - up) poly ++ take (length poly - up) poly) i ≡ coeff F.ops (shift F.ops up poly) i
  unfolding coeff
  turned poly up i within above inside = go (cases_lt i up)
    where
      top : length (drop (length poly - up) poly) ≡ up
      top = length-drop (length poly - up) poly ∙ omega arith

      go : (i < up) ⊎ (up ≤ i) → coeff F.ops (drop (length poly - up) poly ++ take (length poly - up) poly) i ≡ coeff F.ops (shift F.ops up poly) i
      go (inl h) =
          get_or_append_left (drop (length poly - up) poly) _ 𝟎 i (omega (arith, top))
          ∙ coeff_drop F (length poly - up) poly i ∙ above (length poly - up + i) (omega arith) ∙ sym (shift_below F up poly i h)
      go (inr h) =
          get_or-append_right (drop (length poly - up) poly) (take (length poly - up) poly) up i 𝟎 top h
          ∙ coeff_take F.ops poly (length poly - up) (i - up) (omega arith) ∙ sym (shift_from F up poly i h)

  -- with f times the old one added
  pub grown_by : (moved after poly part : List K) (up i : ℕ) (f : K) → moved ≡ drop (length poly - up) poly ++ take (length poly - up) poly → up ≤ length poly
      → ((j : ℕ) → length poly ≤ j + up → coeff F.ops poly j ≡ 𝟎) → i < length poly
      → coeff F.ops after i ≡ coeff F.ops moved i ⊕ f ⊗ coeff F.ops (shift F.ops 0 part) i
      → coeff F.ops after i ≡ coeff F.ops (shift F.ops up poly) i ⊕ f ⊗ coeff F.ops part i
  grown_by moved after poly part up i f moved_is within above inside told =
      told ∙ ap₂ (λ a b. a ⊕ f ⊗ b) (ap (λ l. coeff F.ops l i) moved_is ∙ turned poly up i within above inside) (simp clauses)

  pub start_in : (t : ℕ → K) (poly old : List K) (one miss : K) → one ≡ 𝟏 → miss ≡ 𝟏 → 0 < length poly → Nought F.ops poly → Nought F.ops old
      → Recurrence F.ops t 0 (set poly 0 one) 0 old miss
  start_in t poly old one miss is_one is_miss some zeros old_zeros =
      subst (Recurrence F.ops t 0 (set poly 0 one) 0 old) (sym is_miss)
      (alike F t 0 (𝟏 ∷ []) 0 [] 𝟏 (start F t) (set poly 0 one) old each (λ i. simp clauses (sym (old_zeros i))))
    where
      each : (i : ℕ) → coeff F.ops (𝟏 ∷ []) i ≡ coeff F.ops (set poly 0 one) i
      each zero = simp clauses (sym is_one ∙ sym (coeff_set_here F.ops poly 0 one some))
      each (suc i) = simp clauses (sym (zeros (suc i)) ∙ sym (coeff_set_other F.ops poly 0 (suc i) one (λ e. absurd (omega arith))))
