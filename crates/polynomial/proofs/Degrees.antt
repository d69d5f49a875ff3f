-- The degree of a polynomial: what a search from the top finds, where it lies, and that there is one.
use Rattle.std.proofs.Common.{◌≡◌, ℕ, ◌<◌, ◌≤◌, true, false, ◌⊎◌, List, length, get_or, Option, Some, None, inl, inr, arith}
use Rattle.std.specs.Option.{MatchOption}
use Rattle.std.proofs.lemmas.Bool.{cases_lt}
use Rattle.std.proofs.lemmas.Bool.Decides.{not_from_Decides}
use Rattle.std.proofs.lemmas.List.{get_or_past}
use Rattle.field.specs.Field.{Ops}
use Rattle.field.proofs.Ring.{Lawful}
use Rattle.polynomial.specs.Coefficients.{coeff, Degree}
use Rattle.polynomial.specs.Division.{HasDegree}
use Rattle.polynomial.proofs.Entries.{coeff_past}

module _ {K : Type 0} (F : Lawful K) where
  open F.ops use {nought as 𝟎}

  -- what a search from the top finds
  abbrev pub FromTop : List K → Option ℕ → Type 0
  FromTop p r = MatchOption r
      ((k : ℕ) → k < length p → F.ops.same (get_or p k 𝟎) 𝟎 ≡ true)
      (λ i. (i < length p) × (F.ops.same (get_or p i 𝟎) 𝟎 ≡ false) × ((k : ℕ) → i < k → k < length p → F.ops.same (get_or p k 𝟎) 𝟎 ≡ true))

  pub degree_from_top : (p : List K) (r : Option ℕ) → FromTop p r → HasDegree F.ops p r
  unfolding coeff
  degree_from_top p None zeros = λ i. go i (cases_lt i (length p))
    where
      go : (i : ℕ) → (i < length p) ⊎ (length p ≤ i) → get_or p i 𝟎 ≡ 𝟎
      go i (inl h) = (F.laws.sameness _ _).0 (zeros i h)
      go i (inr h) = get_or_past p i 𝟎 h
  degree_from_top p (Some m) found = record {
    top = not_from_Decides _ (F.laws.sameness _ _) found.1;
    above = λ i h. go i h (cases_lt i (length p));
  }
    where
      go : (i : ℕ) → m < i → (i < length p) ⊎ (length p ≤ i) → get_or p i 𝟎 ≡ 𝟎
      go i h (inl k) = (F.laws.sameness _ _).0 (found.2 i h k)
      go i h (inr k) = get_or_past p i 𝟎 k

module _ {K : Type 0} (o : Ops K) where
  -- the top coefficient lies inside the list
  pub degree_inside : (p : List K) (m : ℕ) → Degree o p m → m < length p
  degree_inside p m deg = go (cases_lt m (length p))
    where
      go : (m < length p) ⊎ (length p ≤ m) → m < length p
      go (inl h) = h
      go (inr h) = absurd (deg.top (coeff_past o p m h))

  pub one_degree : (p : List K) (m n : ℕ) → Degree o p m → Degree o p n → m ≡ n
  one_degree p m n dm dn = go (cases_lt m n) (cases_lt n m)
    where
      go : (m < n) ⊎ (n ≤ m) → (n < m) ⊎ (m ≤ n) → m ≡ n
      go (inl h) k = absurd (dn.top (dm.above n h))
      go (inr h) (inl k) = absurd (dm.top (dn.above m k))
      go (inr h) (inr k) = omega arith
