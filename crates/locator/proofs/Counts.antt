-- The numbers below n that pass a test: their list, their count, and the distance of two words as such a count.
use Rattle.std.proofs.Common.{◌≡◌, ℕ, zero, suc, ◌<◌, ◌≤◌, Bool, true, false, cond, not, ◌⊎◌, List, [], ◌∷◌, length, sym, refl, ap, ◌∙◌, ap₂, inl, inr, arith}
use mathlib.Core.Bool.{false≢true}
use Rattle.std.proofs.lemmas.Bool.{cases_eq}
use Rattle.field.specs.Field.{Ops}
use Rattle.polynomial.specs.Coefficients.{coeff}
use Rattle.polynomial.specs.Sums.{Each, Distinct}
use Rattle.polynomial.specs.Words.{distance}
use Rattle.polynomial.proofs.Sums.{all_map}
use Rattle.locator.specs.Correction.{counted}

-- n in front, where it passes
abbrev pub listed : Bool → ℕ → List ℕ → List ℕ
listed true n ls = n ∷ ls
listed false n ls = ls

unfoldable pub passing : (ℕ → Bool) → ℕ → List ℕ
passing p zero = []
passing p (suc n) = listed (p n) n (passing p n)

pub length_passing : (p : ℕ → Bool) (n : ℕ) → length (passing p n) ≡ counted p n
unfolding passing counted
length_passing p zero = refl
length_passing p (suc n) = go (p n) (length_passing p n)
  where
    go : (b : Bool) → length (passing p n) ≡ counted p n → length (listed b n (passing p n)) ≡ cond b (suc (counted p n)) (counted p n)
    go true e = ap suc e
    go false e = e

pub passing_all : (p : ℕ → Bool) (n : ℕ) → Each (λ i. (i < n) × (p i ≡ true)) (passing p n)
unfolding passing
passing_all p zero = tt
passing_all p (suc n) = go _ refl (all_map (λ i. (i < n) × (p i ≡ true)) (λ i. (i < suc n) × (p i ≡ true)) (λ i h. (omega (arith, h.0), h.1)) _ (passing_all p n))
  where
    go : (b : Bool) → p n ≡ b → Each (λ i. (i < suc n) × (p i ≡ true)) (passing p n) → Each (λ i. (i < suc n) × (p i ≡ true)) (listed b n (passing p n))
    go true e h = ((omega arith, e), h)
    go false e h = h

pub passing_apart : (p : ℕ → Bool) (n : ℕ) → Distinct (λ i. i) (passing p n)
unfolding passing
passing_apart p zero = tt
passing_apart p (suc n) = go (p n) (all_map (λ i. (i < n) × (p i ≡ true)) (λ i. i ≡ n → ⊥) (λ i h e. absurd (omega (arith, h.0))) _ (passing_all p n)) (passing_apart p n)
  where
    go : (b : Bool) → Each (λ i. i ≡ n → ⊥) (passing p n) → Distinct (λ i. i) (passing p n) → Distinct (λ i. i) (listed b n (passing p n))
    go true h d = (h, d)
    go false h d = d

-- a number that is not listed does not pass
pub not_passing : (p : ℕ → Bool) (n i : ℕ) → i < n → Each (λ a. a ≡ i → ⊥) (passing p n) → p i ≡ false
unfolding passing
not_passing p zero i l h = absurd (omega arith)
not_passing p (suc n) i l h = go _ refl h (cases_eq i n) (not_passing p n i)
  where
    go : (b : Bool) → p n ≡ b → Each (λ a. a ≡ i → ⊥) (listed b n (passing p n)) → (i ≡ n) ⊎ (i ≡ n → ⊥) → (i < n → Each (λ a. a ≡ i → ⊥) (passing p n) → p i ≡ false) → p i ≡ false
    go true e h (inl same) rest = absurd (h.0 (sym same))
    go true e h (inr other) rest = rest (omega arith) h.1
    go false e h (inl same) rest = ap p same ∙ e
    go false e h (inr other) rest = rest (omega arith) h

pub counted_same : (p q : ℕ → Bool) (n : ℕ) → ((i : ℕ) → i < n → p i ≡ q i) → counted p n ≡ counted q n
unfolding counted
counted_same p q zero h = refl
counted_same p q (suc n) h = ap₂ (λ b k. cond b (suc k) k) (h n (omega arith)) (counted_same p q n (λ i l. h i (omega arith)))

-- where what passes one test passes another, it counts no more
pub counted_fewer : (p q : ℕ → Bool) (n : ℕ) → ((i : ℕ) → i < n → p i ≡ true → q i ≡ true) → counted p n ≤ counted q n
unfolding counted
counted_fewer p q zero h = omega arith
counted_fewer p q (suc n) h = go _ refl _ refl (counted_fewer p q n (λ i l. h i (omega arith)))
  where
    go : (a : Bool) → p n ≡ a → (b : Bool) → q n ≡ b → counted p n ≤ counted q n → cond a (suc (counted p n)) (counted p n) ≤ cond b (suc (counted q n)) (counted q n)
    go true e true f k = omega arith
    go true e false f k = absurd (false≢true (sym f ∙ h n (omega arith) e))
    go false e true f k = omega arith
    go false e false f k = k

-- the count, with the first number apart
counted_front : (p : ℕ → Bool) (n : ℕ) → counted p (suc n) ≡ cond (p 0) (suc (counted (λ i. p (suc i)) n)) (counted (λ i. p (suc i)) n)
unfolding counted
counted_front p zero = refl
counted_front p (suc n) = ap (λ k. cond (p (suc n)) (suc k) k) (counted_front p n) ∙ go (p 0) (p (suc n)) (counted (λ i. p (suc i)) n)
  where
    go : (a b : Bool) (k : ℕ) → cond b (suc (cond a (suc k) k)) (cond a (suc k) k) ≡ cond a (suc (cond b (suc k) k)) (cond b (suc k) k)
    go true true k = refl
    go true false k = refl
    go false true k = refl
    go false false k = refl

module _ {K : Type 0} (o : Ops K) where
  -- two words differ in place i
  abbrev pub differs : List K → List K → ℕ → Bool
  differs v w i = not (o.same (coeff o v i) (coeff o w i))

  pub distance_counted : (v w : List K) → length v ≡ length w → distance o v w ≡ counted (differs v w) (length v)
  unfolding distance coeff counted
  distance_counted [] w e = refl
  distance_counted (a ∷ v) [] e = absurd (omega arith)
  distance_counted (a ∷ v) (b ∷ w) e =
      ap (λ k. cond (o.same a b) k (suc k)) (distance_counted v w (omega arith))
      ∙ go (o.same a b) (counted (differs v w) (length v))
      ∙ sym (counted_front (differs (a ∷ v) (b ∷ w)) (length v))
    where
      go : (t : Bool) (k : ℕ) → cond t k (suc k) ≡ cond (not t) (suc k) k
      go true k = refl
      go false k = refl
