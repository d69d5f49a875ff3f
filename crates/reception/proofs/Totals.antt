-- Sums of a function over 0 to n - 1.
use Rattle.std.proofs.Common.{◌≡◌, ℕ, zero, suc, ◌+◌, ◌*◌, ◌<◌, ◌≤◌, ◌⊎◌, sym, refl, ap, ◌∙◌, ap₂, inl, inr, add-zero, add_assoc, add-suc, suc-mul, zero-mul, arith}
use Rattle.std.proofs.lemmas.Bool.{cases_lt}
use Rattle.reception.specs.Messages.{total}

pub total_same : (n : ℕ) (f g : ℕ → ℕ) → ((i : ℕ) → i < n → f i ≡ g i) → total n f ≡ total n g
unfolding total
total_same zero f g h = refl
total_same (suc n) f g h = ap₂ ◌+◌ (total_same n f g (λ i k. h i (omega arith))) (h n (omega arith))

pub total_plus : (n : ℕ) (f g : ℕ → ℕ) → total n (λ i. f i + g i) ≡ total n f + total n g
unfolding total
total_plus zero f g = refl
total_plus (suc n) f g = omega (arith, total_plus n f g)

pub total_zeros : (n : ℕ) → total n (λ i. 0) ≡ 0
unfolding total
total_zeros zero = refl
total_zeros (suc n) = omega (arith, total_zeros n)

-- A sum that is 0 has no other term.
pub total_zero : (n : ℕ) (f : ℕ → ℕ) → total n f ≡ 0 → (i : ℕ) → i < n → f i ≡ 0
unfolding total
total_zero zero f e i h = absurd (omega arith)
total_zero (suc n) f e i h = last (omega arith) (omega arith) (λ none k. total_zero n f none i k)
  where
    last : total n f ≡ 0 → f n ≡ 0 → (total n f ≡ 0 → i < n → f i ≡ 0) → f i ≡ 0
    last none here before = at (cases_lt i n)
      where
        at : (i < n) ⊎ (n ≤ i) → f i ≡ 0
        at (inl k) = before none k
        at (inr k) = let same : i ≡ n = omega arith in ap f same ∙ here

-- The first term apart.
pub total_first : (n : ℕ) (f : ℕ → ℕ) → total (suc n) f ≡ f 0 + total n (λ i. f (suc i))
unfolding total
total_first zero f = omega arith
total_first (suc n) f = omega (arith, total_first n f)

pub total_split : (a b : ℕ) (f : ℕ → ℕ) → total (a + b) f ≡ total a f + total b (λ i. f (a + i))
unfolding total
total_split a zero f = ap (λ n. total n f) (add-zero a) ∙ sym (add-zero (total a f))
total_split a (suc b) f = ap (λ n. total n f) (add-suc a b) ∙ ap (λ t. t + f (a + b)) (total_split a b f) ∙ add_assoc _ _ _

-- A sum over n rows of d.
pub total_rows : (n d : ℕ) (f : ℕ → ℕ) → total (n * d) f ≡ total n (λ i. total d (λ l. f (i * d + l)))
unfolding total
total_rows zero d f = ap (λ n. total n f) (zero-mul d)
total_rows (suc n) d f =
    ap (λ n. total n f) (suc-mul n d) ∙ total_split (n * d) d f ∙ ap (λ t. t + total d (λ l. f (n * d + l))) (total_rows n d f)

pub total_swap : (n m : ℕ) (f : ℕ → ℕ → ℕ) → total n (λ i. total m (λ j. f i j)) ≡ total m (λ j. total n (λ i. f i j))
unfolding total
total_swap zero m f = sym (total_zeros m)
total_swap (suc n) m f =
    ap (λ t. t + total m (λ j. f n j)) (total_swap n m f) ∙ sym (total_plus m (λ j. total n (λ i. f i j)) (λ j. f n j))
