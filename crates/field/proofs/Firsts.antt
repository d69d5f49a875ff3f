-- Steps of a search for the first number that passes a test, and what its answer says of all numbers.
use Rattle.std.proofs.Common.{◌≡◌, ℕ, zero, suc, ◌+◌, ◌-◌, ◌<◌, ◌≤◌, Bool, true, false, cond, Some, None, sym, refl, ap, ◌∙◌, ⊎_elim, add-one, arith}
use Rattle.std.proofs.lemmas.Bool.{cases_lt}
use Rattle.field.specs.First.{first_of}

-- The search from n up to an end.
module _ (passes : ℕ → Bool) (end n : ℕ) where
  opened : n < end → first_of passes (end - n) n ≡ cond (passes n) (Some n) (first_of passes (end - (n + 1)) (n + 1))
  unfolding first_of
  opened within =
      let e : end - n ≡ suc (end - (n + 1)) = omega arith in
      ap (λ k. first_of passes k n) e ∙ sym (ap (λ m. cond (passes n) (Some n) (first_of passes (end - (n + 1)) m)) (add-one n))

  pub first_found : n < end → passes n ≡ true → first_of passes (end - n) n ≡ Some n
  first_found within yes_here = rw (opened within, yes_here)

  pub first_passed : n < end → passes n ≡ false → first_of passes (end - (n + 1)) (n + 1) ≡ first_of passes (end - n) n
  first_passed within not_here = sym (rw (opened within, not_here))

  pub first_none : end ≤ n → first_of passes (end - n) n ≡ None
  unfolding first_of
  first_none past = let e : end - n ≡ 0 = omega arith in ap (λ k. first_of passes k n) e

-- Of the k numbers from n on none passes, where the search finds none.
pub none_passes : (passes : ℕ → Bool) (k n : ℕ) → first_of passes k n ≡ None → (i : ℕ) → n ≤ i → i < n + k → passes i ≡ false
unfolding first_of
none_passes passes zero n e i low high = absurd (omega arith)
none_passes passes (suc k) n e i low high = at (passes n) refl e (λ none later. none_passes passes k (suc n) none i later (omega arith))
  where
    at : (b : Bool) → passes n ≡ b → cond b (Some n) (first_of passes k (suc n)) ≡ None → (first_of passes k (suc n) ≡ None → suc n ≤ i → passes i ≡ false) → passes i ≡ false
    at true here e more = absurd (let z : ◌≡◌ {A = ℕ} 0 1 = cc in omega arith)
    at false here e more = ⊎_elim (λ later. more e later) (λ h. let same : i ≡ n = omega arith in ap passes same ∙ here) (cases_lt n i)

-- And where none passes, it finds none.
pub none_found : (passes : ℕ → Bool) (k n : ℕ) → ((i : ℕ) → n ≤ i → i < n + k → passes i ≡ false) → first_of passes k n ≡ None
unfolding first_of
none_found passes zero n all = refl
none_found passes (suc k) n all = rw (all n (omega arith) (omega arith)) (none_found passes k (suc n) (λ i low high. all i (omega arith) (omega arith)))

-- The number that is found passes, lies among the k from n on, and none before it passes.
pub record IsFirst (passes : ℕ → Bool) (k n m : ℕ) : Type 0 where
  pub low : n ≤ m
  pub high : m < n + k
  pub passes_here : passes m ≡ true
  pub before : (i : ℕ) → n ≤ i → i < m → passes i ≡ false

pub is_first : (passes : ℕ → Bool) (k n m : ℕ) → first_of passes k n ≡ Some m → IsFirst passes k n m
unfolding first_of
is_first passes zero n m e = absurd (let z : ◌≡◌ {A = ℕ} 0 1 = cc in omega arith)
is_first passes (suc k) n m e = at (passes n) refl e (λ later. is_first passes k (suc n) m later)
  where
    at : (b : Bool) → passes n ≡ b → cond b (Some n) (first_of passes k (suc n)) ≡ Some m → (first_of passes k (suc n) ≡ Some m → IsFirst passes k (suc n) m) → IsFirst passes (suc k) n m
    at true here e more =
        let same : n ≡ m = cc in
        record { low = omega arith; high = omega arith; passes_here = sym (ap passes same) ∙ here; before = λ i low high. absurd (omega arith) }
    at false here e more =
        let later = more e in
        record {
          low = omega (arith, later.low);
          high = omega (arith, later.high);
          passes_here = later.passes_here;
          before = λ i low high. ⊎_elim (λ h. later.before i h high) (λ h. let same : i ≡ n = omega arith in ap passes same ∙ here) (cases_lt n i);
        }
