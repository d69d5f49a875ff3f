-- Words with flagged symbols erased: their coefficients, and how far they lie apart.
use Rattle.std.proofs.Common.{◌≡◌, ℕ, zero, suc, ◌+◌, ◌<◌, ◌≤◌, Bool, true, false, cond, ◌⊎◌, List, [], ◌∷◌, length, set, sym, refl, ap, ◌∙◌, inl, inr, arith, length-set}
use mathlib.Core.Bool.{false≢true}
use Rattle.std.proofs.lemmas.Bool.{cases_eq, cases_lt}
use Rattle.field.specs.Field.{Ops}
use Rattle.field.proofs.Ring.{Lawful}
use Rattle.polynomial.specs.Coefficients.{coeff}
use Rattle.polynomial.specs.Sums.{Each}
use Rattle.polynomial.specs.Words.{distance}
use Rattle.polynomial.proofs.Entries.{coeff_past, coeff_set_here, coeff_set_other}
use Rattle.locator.specs.Erasures.{erased}
use Rattle.locator.proofs.Members.{In}

module _ {K : Type 0} (o : Ops K) where
  pub length_erased : (flags : List ℕ) (w : List K) → length (erased o flags w) ≡ length w
  unfolding erased
  length_erased [] w = refl
  length_erased (i ∷ flags) w = length-set (erased o flags w) i o.nought ∙ length_erased flags w

  set_nought : (w : List K) (i : ℕ) → coeff o (set w i o.nought) i ≡ o.nought
  set_nought w i = go (cases_lt i (length w))
    where
      go : (i < length w) ⊎ (length w ≤ i) → coeff o (set w i o.nought) i ≡ o.nought
      go (inl l) = coeff_set_here o w i o.nought l
      go (inr l) = coeff_past o _ i (omega (arith, length-set w i o.nought))

  -- a flagged symbol is zero, and the others stand
  pub erased_flagged : (flags : List ℕ) (w : List K) (i : ℕ) → In i flags → coeff o (erased o flags w) i ≡ o.nought
  unfolding erased
  erased_flagged [] w i h = absurd h
  erased_flagged (j ∷ flags) w i h = go (cases_eq i j) h (erased_flagged flags w i)
    where
      go : (i ≡ j) ⊎ (i ≡ j → ⊥) → (j ≡ i) ⊎ In i flags → (In i flags → coeff o (erased o flags w) i ≡ o.nought) → coeff o (set (erased o flags w) j o.nought) i ≡ o.nought
      go (inl same) h rest = ap (coeff o (set (erased o flags w) j o.nought)) same ∙ set_nought (erased o flags w) j
      go (inr other) (inl e) rest = absurd (other (sym e))
      go (inr other) (inr h) rest = coeff_set_other o (erased o flags w) j i o.nought other ∙ rest h

  pub erased_other : (flags : List ℕ) (w : List K) (i : ℕ) → Each (λ a. a ≡ i → ⊥) flags → coeff o (erased o flags w) i ≡ coeff o w i
  unfolding erased
  erased_other [] w i h = refl
  erased_other (j ∷ flags) w i h = coeff_set_other o (erased o flags w) j i o.nought (λ e. h.0 (sym e)) ∙ erased_other flags w i h.1

  -- one symbol put alike in both brings two words nearer by at most one
  distance_set : (v w : List K) (i : ℕ) (a : K) → distance o v w ≤ suc (distance o (set v i a) (set w i a))
  unfolding distance
  distance_set [] w i a = omega arith
  distance_set (x ∷ v) [] i a = omega arith
  distance_set (x ∷ v) (y ∷ w) zero a = go (o.same x y) (o.same a a) (distance o v w)
    where
      go : (s t : Bool) (n : ℕ) → cond s n (suc n) ≤ suc (cond t n (suc n))
      go true true n = omega arith
      go true false n = omega arith
      go false true n = omega arith
      go false false n = omega arith
  distance_set (x ∷ v) (y ∷ w) (suc i) a = go (o.same x y) (distance_set v w i a)
    where
      go : (s : Bool) → distance o v w ≤ suc (distance o (set v i a) (set w i a))
          → cond s (distance o v w) (suc (distance o v w)) ≤ suc (cond s (distance o (set v i a) (set w i a)) (suc (distance o (set v i a) (set w i a))))
      go true h = h
      go false h = omega arith

  pub distance_erased : (flags : List ℕ) (v w : List K) → distance o v w ≤ distance o (erased o flags v) (erased o flags w) + length flags
  unfolding erased
  distance_erased [] v w = omega arith
  distance_erased (i ∷ flags) v w =
      let before = distance_erased flags v w in
      let one = distance_set (erased o flags v) (erased o flags w) i o.nought in
      omega arith

module _ {K : Type 0} (F : Lawful K) where
  -- two words lie no further apart than both together from a third
  pub triangle : (u v w : List K) → length v ≡ length u → length w ≡ length u → distance F.ops v w ≤ distance F.ops u v + distance F.ops u w
  unfolding distance
  triangle u [] w hv hw = omega arith
  triangle [] (a ∷ v) w hv hw = absurd (omega arith)
  triangle (c ∷ u) (a ∷ v) [] hv hw = absurd (omega arith)
  triangle (c ∷ u) (a ∷ v) (b ∷ w) hv hw = go _ refl _ refl _ refl (triangle u v w (omega arith) (omega arith))
    where
      go : (r : Bool) → F.ops.same a b ≡ r → (s : Bool) → F.ops.same c a ≡ s → (t : Bool) → F.ops.same c b ≡ t
          → distance F.ops v w ≤ distance F.ops u v + distance F.ops u w
          → cond r (distance F.ops v w) (suc (distance F.ops v w))
          ≤ cond s (distance F.ops u v) (suc (distance F.ops u v)) + cond t (distance F.ops u w) (suc (distance F.ops u w))
      go true e true f true g h = h
      go true e true f false g h = omega arith
      go true e false f true g h = omega arith
      go true e false f false g h = omega arith
      go false e true f true g h =
          absurd (false≢true (sym e ∙ (F.laws.sameness a b).1 (sym ((F.laws.sameness c a).0 f) ∙ (F.laws.sameness c b).0 g)))
      go false e true f false g h = omega arith
      go false e false f true g h = omega arith
      go false e false f false g h = omega arith
