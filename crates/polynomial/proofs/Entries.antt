-- The coefficients of a list as it is read, cut off, written to and made longer.
use Rattle.std.proofs.Common.{◌≡◌, ℕ, zero, suc, ◌<◌, ◌≤◌, List, ◌∷◌, length, get_or, take, set, replicate}
use Rattle.std.proofs.lemmas.List.{get_or_past, get_or_read, get_or-set_same, get_or-set_other, get_or-take, ext_get_or}
use Rattle.field.specs.Field.{Ops}
use Rattle.polynomial.specs.Coefficients.{coeff, Same, Nought}
use Rattle.polynomial.proofs.Clauses.{clauses}

module _ {K : Type 0} (o : Ops K) where
  -- past the end there are zeros
  pub coeff_past : (p : List K) (i : ℕ) → length p ≤ i → coeff o p i ≡ o.nought
  unfolding coeff
  coeff_past p i h = get_or_past p i o.nought h

  -- an element that was read is the coefficient there
  pub coeff_read : (p : List K) (i : ℕ) (x : K) → i < length p → x ≡ get_or p i x → x ≡ coeff o p i
  unfolding coeff
  coeff_read p i x within is = get_or_read p i x within is o.nought

  pub coeff_take : (p : List K) (n i : ℕ) → i < n → coeff o (take n p) i ≡ coeff o p i
  unfolding coeff
  coeff_take p n i h = get_or-take n p i o.nought h

  pub coeff_set_here : (p : List K) (i : ℕ) (v : K) → i < length p → coeff o (set p i v) i ≡ v
  unfolding coeff
  coeff_set_here p i v h = get_or-set_same p i v o.nought h

  pub coeff_set_other : (p : List K) (i j : ℕ) (v : K) → (j ≡ i → ⊥) → coeff o (set p i v) j ≡ coeff o p j
  unfolding coeff
  coeff_set_other p i j v n = get_or-set_other p i j v o.nought n

  -- zeros alone
  pub coeff_zeros : (n i : ℕ) → coeff o (replicate n o.nought) i ≡ o.nought
  coeff_zeros zero i = simp clauses
  coeff_zeros (suc n) zero = simp clauses
  coeff_zeros (suc n) (suc i) = simp (clauses, coeff_zeros n i)

  pub nought_cons : (a : K) (p : List K) → a ≡ o.nought → Nought o p → Nought o (a ∷ p)
  nought_cons a p e z zero = simp (clauses, e)
  nought_cons a p e z (suc i) = simp (clauses, z i)

  pub nought_rest : (a : K) (p : List K) → Nought o (a ∷ p) → Nought o p
  nought_rest a p z i = simp clauses at (z (suc i))

  -- the same polynomial in lists of one length is the same list
  pub same_list : (p q : List K) → length p ≡ length q → Same o p q → p ≡ q
  unfolding coeff
  same_list p q l s = ext_get_or o.nought p q l (λ i h. s i)
