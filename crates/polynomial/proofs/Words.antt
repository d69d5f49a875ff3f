-- Two words that vanish at the same powers in a row, and lie near one another, are the same.
use Rattle.std.proofs.Common.{◌≡◌, ℕ, suc, ◌+◌, ◌<◌, ◌≤◌, Bool, true, false, cond, List, [], ◌∷◌, length, replicate, sym, refl, ap, ◌∙◌, ap₂, arith}
use Rattle.std.proofs.lemmas.List.{length-replicate}
use Rattle.std.proofs.lemmas.Bool.Decides.{not_from_Decides}
use Rattle.field.specs.Field.{Ops, power}
use Rattle.field.specs.Polynomial.{value, Vanishes, Apart}
use Rattle.field.proofs.Ring.{Lawful, ring, eq_of_sum, no_divisor, mul_assoc}
use Rattle.polynomial.specs.Coefficients.{coeff, Nought}
use Rattle.polynomial.specs.Sums.{Each, Distinct, psum}
use Rattle.polynomial.specs.Words.{distance, weight, Difference, noted, differences}
use Rattle.polynomial.specs.Laws.{Distance}
use Rattle.polynomial.proofs.Clauses.{values, power_suc}
use Rattle.polynomial.proofs.Entries.{coeff_zeros}
use Rattle.polynomial.proofs.Algebra.{value_zero}
use Rattle.polynomial.proofs.Powers.{power_add, power_swap, power_not_zero}
use Rattle.polynomial.proofs.Sums.{psum_cons, sums, all_map, power_sums}

module _ {K : Type 0} (o : Ops K) where
  length_noted : (t : Bool) (d : Difference K) (ds : List (Difference K)) (n : ℕ) → length ds ≡ n → length (noted t d ds) ≡ cond t n (suc n)
  length_noted true d ds n e = e
  length_noted false d ds n e = ap suc e

  -- there are as many differences as the distance says
  pub length_differences : (k : ℕ) (v w : List K) → length (differences o k v w) ≡ distance o v w
  unfolding differences distance
  length_differences k [] w = refl
  length_differences k (a ∷ v) [] = refl
  length_differences k (a ∷ v) (b ∷ w) = length_noted (o.same a b) _ (differences o (suc k) v w) (distance o v w) (length_differences (suc k) v w)

  -- the weight is the distance from the zero word
  pub weight_distance : (w : List K) → weight o w ≡ distance o w (replicate (length w) o.nought)
  unfolding weight distance
  weight_distance [] = refl
  weight_distance (a ∷ w) = ap (λ n. cond (o.same a o.nought) n (suc n)) (weight_distance w)

module _ {K : Type 0} (F : Lawful K) where
  open F.ops use {nought as 𝟎, sum as ◌⊕◌, product as ◌⊗◌}

  infixl 60 ◌⊕◌
  infixl 70 ◌⊗◌
  -- what holds of the differences, where one more may be noted
  module _ (a b : K) (d : Difference K) (ds : List (Difference K)) where
    all_noted : (P : Difference K → Type 0) → ((a ≡ b → ⊥) → P d) → Each P ds → Each P (noted (F.ops.same a b) d ds)
    all_noted P f h = go _ refl
      where
        go : (t : Bool) → F.ops.same a b ≡ t → Each P (noted t d ds)
        go true e = h
        go false e = (f (not_from_Decides (F.ops.same a b) (F.laws.sameness a b) e), h)

    distinct_noted : (x : Difference K → K) → Each (λ t. x t ≡ x d → ⊥) ds → Distinct x ds → Distinct x (noted (F.ops.same a b) d ds)
    distinct_noted x f h = go _
      where
        go : (t : Bool) → Distinct x (noted t d ds)
        go true = h
        go false = (f, h)

    sum_noted : (v x : Difference K → K) (k : ℕ) → (a ≡ b → v d ≡ 𝟎) → psum F.ops v x (noted (F.ops.same a b) d ds) k ≡ v d ⊗ power F.ops (x d) k ⊕ psum F.ops v x ds k
    sum_noted v x k z = go _ refl
      where
        go : (t : Bool) → F.ops.same a b ≡ t → psum F.ops v x (noted t d ds) k ≡ v d ⊗ power F.ops (x d) k ⊕ psum F.ops v x ds k
        go true e = sym (ap (λ t. t ⊗ power F.ops (x d) k ⊕ psum F.ops v x ds k) (z ((F.laws.sameness a b).0 e)) ∙ simp ring)
        go false e = psum_cons F.ops v x d ds k

  module _ (base : K) where
    -- the locator of a difference
    abbrev pub locator : Difference K → K
    locator d = power F.ops base d.place

    -- its amount times its locator to the exponent of the first root
    abbrev pub magnitude : ℕ → Difference K → K
    magnitude s d = d.amount ⊗ power F.ops (power F.ops base d.place) s

    -- the difference of two words at a root, as a power sum over the places where they differ
    pub by_places : (s j k : ℕ) (v w : List K) → length v ≡ length w
        → psum F.ops (magnitude s) locator (differences F.ops k v w) j
        ≡ power F.ops (power F.ops base (s + j)) k ⊗ (value F.ops v (power F.ops base (s + j)) ⊕ value F.ops w (power F.ops base (s + j)))
    unfolding differences
    by_places s j k [] [] l = simp (sums, values, ring)
    by_places s j k [] (b ∷ w) l = absurd (omega arith)
    by_places s j k (a ∷ v) [] l = absurd (omega arith)
    by_places s j k (a ∷ v) (b ∷ w) l =
        let y = power F.ops base (s + j) in
        let t : power F.ops (power F.ops base k) s ⊗ power F.ops (power F.ops base k) j ≡ power F.ops y k =
        sym (power_add F (power F.ops base k) s j) ∙ power_swap F base k (s + j) in
        sum_noted a b (record { place = k; amount = a ⊕ b }) (differences F.ops (suc k) v w) (magnitude s) locator j (λ e. ap (λ u. (a ⊕ u) ⊗ power F.ops (power F.ops base k) s) (sym e) ∙ simp ring)
        ∙ ap₂ ◌⊕◌ (mul_assoc F _ _ _ ∙ ap (λ u. (a ⊕ b) ⊗ u) t) (by_places s j (suc k) v w (omega arith))
        ∙ simp (values, power_suc, ring)

    -- the places of differences
    pub places : (k : ℕ) (v w : List K) → Each (λ d. (k ≤ d.place) × (d.place < k + length v)) (differences F.ops k v w)
    unfolding differences
    places k [] w = tt
    places k (a ∷ v) [] = tt
    places k (a ∷ v) (b ∷ w) =
        all_noted a b _ _ (λ d. (k ≤ d.place) × (d.place < k + suc (length v))) (λ _. (omega arith, omega arith))
        (all_map (λ d. (suc k ≤ d.place) × (d.place < suc k + length v)) _ (λ d h. (omega arith, omega arith)) _ (places (suc k) v w))

    pub distinct_locators : (n k : ℕ) → Apart (power F.ops base) n → (v w : List K) → k + length v ≤ n → Distinct locator (differences F.ops k v w)
    unfolding differences
    distinct_locators n k apart [] w h = tt
    distinct_locators n k apart (a ∷ v) [] h = tt
    distinct_locators n k apart (a ∷ v) (b ∷ w) h =
        distinct_noted a b _ _ locator
        (all_map (λ d. (suc k ≤ d.place) × (d.place < suc k + length v)) (λ d. locator d ≡ power F.ops base k → ⊥)
        (λ d i e. let same : d.place ≡ k = apart d.place k (omega arith) (omega arith) e in omega arith) _ (places (suc k) v w))
        (distinct_locators n (suc k) apart v w (omega arith))

    pub same_words : (base ≡ 𝟎 → ⊥) → (s k : ℕ) (v w : List K) → length v ≡ length w → Each (λ d. magnitude s d ≡ 𝟎) (differences F.ops k v w) → v ≡ w
    unfolding differences
    same_words some s k [] [] l h = refl
    same_words some s k [] (b ∷ w) l h = absurd (omega arith)
    same_words some s k (a ∷ v) [] l h = absurd (omega arith)
    same_words some s k (a ∷ v) (b ∷ w) l h = go _ refl h (same_words some s (suc k) v w (omega arith))
      where
        go : (t : Bool) → F.ops.same a b ≡ t → Each (λ d. magnitude s d ≡ 𝟎) (noted t (record { place = k; amount = a ⊕ b }) (differences F.ops (suc k) v w))
            → (Each (λ d. magnitude s d ≡ 𝟎) (differences F.ops (suc k) v w) → v ≡ w) → a ∷ v ≡ b ∷ w
        go true e h rest = ap₂ ◌∷◌ ((F.laws.sameness a b).0 e) (rest h)
        go false e h rest = ap₂ ◌∷◌ (eq_of_sum F a b (no_divisor F _ _ h.0 (power_not_zero F _ (power_not_zero F base some k) s))) (rest h.1)

  -- two words at most c apart that vanish at c powers in a row
  pub near : (base : K) (s c : ℕ) (v w : List K) → (base ≡ 𝟎 → ⊥) → length v ≡ length w → Apart (power F.ops base) (length v)
      → Vanishes F.ops (λ k. power F.ops base (s + k)) c v → Vanishes F.ops (λ k. power F.ops base (s + k)) c w → distance F.ops v w ≤ c → v ≡ w
  near base s c v w some l apart hv hw close =
      same_words base some s 0 v w l
      (power_sums F c (magnitude base s) (locator base) (differences F.ops 0 v w) (omega (arith, length_differences F.ops 0 v w)) (distinct_locators base (length v) 0 apart v w (omega arith))
      (λ k h. by_places base s k 0 v w l ∙ simp (hv k h, hw k h, ring)))

  -- a word of weight at most c that vanishes at c powers in a row
  pub light : (base : K) (s c : ℕ) (w : List K) → (base ≡ 𝟎 → ⊥) → Apart (power F.ops base) (length w)
      → Vanishes F.ops (λ k. power F.ops base (s + k)) c w → weight F.ops w ≤ c → Nought F.ops w
  light base s c w some apart hw few i =
      let zeros = replicate (length w) 𝟎 in
      let e : w ≡ zeros =
      near base s c w zeros some (sym (length-replicate (length w) 𝟎)) apart hw (λ k h. value_zero F zeros (coeff_zeros F.ops (length w)) _) (omega (arith, weight_distance F.ops w)) in
      ap (λ p. coeff F.ops p i) e ∙ coeff_zeros F.ops (length w) i

  pub far_apart : Distance F.ops
  far_apart = record { near = near; light = light }
