-- Steps of multiplying factors out in place.
use Rattle.std.proofs.Common.{◌≡◌, ℕ, zero, suc, ◌+◌, ◌<◌, ◌≤◌, ◌⊎◌, List, [], ◌∷◌, length, get_or, set, replicate, sym, refl, ap, ◌∙◌, subst, ap₂, inl, inr, add-one, arith}
use Rattle.std.proofs.lemmas.Bool.{cases_eq, cases_lt}
use Rattle.field.proofs.Ring.{Lawful, add_comm}
use Rattle.polynomial.specs.Coefficients.{coeff, Same}
use Rattle.polynomial.proofs.Clauses.{clauses, coeff_suc}
use Rattle.polynomial.proofs.Entries.{coeff_past, coeff_read, coeff_set_here, coeff_set_other, coeff_zeros, same_list}
use Rattle.generator.specs.Generator.{product_of, Multiplied}
use Rattle.generator.proofs.Products.{product_more, monic_product, length_product}

module _ {K : Type 0} (F : Lawful K) where
  open F.ops use {nought as 𝟎, unit as 𝟏, sum as ◌⊕◌, product as ◌⊗◌}

  infixl 60 ◌⊕◌
  infixl 70 ◌⊗◌
  -- The first i coefficients are those of (x + a)·start, and the others those of `start`.
  pub record Partly (start buffer : List K) (a : K) (i : ℕ) : Type 0 where
    pub done : (k : ℕ) → k < i → coeff F.ops buffer k ≡ coeff F.ops (𝟎 ∷ start) k ⊕ a ⊗ coeff F.ops start k
    pub left : (k : ℕ) → i ≤ k → coeff F.ops buffer k ≡ coeff F.ops start k

  pub partly_none : (start : List K) (a : K) → Partly start start a 0
  partly_none start a = record { done = λ k h. absurd (omega arith); left = λ k h. refl }

  module _ (start buffer : List K) (a here below p v : K) (i : ℕ) (within : i < length buffer) (read : here ≡ get_or buffer i here)
      (held : below ≡ coeff F.ops (𝟎 ∷ start) i) (product_told : p ≡ a ⊗ get_or buffer i here) (sum_told : v ≡ below ⊕ p) (so_far : Partly start buffer a i) where
    here_is : get_or buffer i here ≡ coeff F.ops start i
    here_is = sym read ∙ coeff_read F.ops buffer i here within read ∙ so_far.left i (omega arith)

    pub held_next : get_or buffer i here ≡ coeff F.ops (𝟎 ∷ start) (i + 1)
    held_next = here_is ∙ sym (ap (coeff F.ops (𝟎 ∷ start)) (add-one i) ∙ coeff_suc F.ops 𝟎 start i)

    pub partly_next : Partly start (set buffer i v) a (i + 1)
    partly_next = record { done = λ k h. done k h (cases_eq k i); left = λ k h. coeff_set_other F.ops buffer i k v (λ e. omega arith) ∙ so_far.left k (omega arith) }
      where
        done : (k : ℕ) → k < i + 1 → (k ≡ i) ⊎ (k ≡ i → ⊥) → coeff F.ops (set buffer i v) k ≡ coeff F.ops (𝟎 ∷ start) k ⊕ a ⊗ coeff F.ops start k
        done k h (inl e) =
            ap (coeff F.ops (set buffer i v)) e ∙ coeff_set_here F.ops buffer i v within ∙ sum_told
            ∙ ap₂ ◌⊕◌ held (product_told ∙ ap (λ t. a ⊗ t) here_is)
            ∙ sym (ap (λ n. coeff F.ops (𝟎 ∷ start) n ⊕ a ⊗ coeff F.ops start n) e)
        done k h (inr ne) = coeff_set_other F.ops buffer i k v ne ∙ so_far.done k (omega arith)

  -- One factor more.
  module _ (f : ℕ → K) where
    pub factor_none : (n : ℕ) (zero' one : K) → zero' ≡ 𝟎 → one ≡ 𝟏 → Same F.ops (one ∷ replicate n zero') (product_of F.ops f 0)
    unfolding product_of
    factor_none n zero' one none is i = ap (λ z. coeff F.ops (one ∷ replicate n z) i) none ∙ go i
      where
        go : (i : ℕ) → coeff F.ops (one ∷ replicate n 𝟎) i ≡ coeff F.ops (𝟏 ∷ []) i
        go zero = simp (clauses, is)
        go (suc i) = simp (clauses, coeff_zeros F.ops n i)

    pub factor_next : (n k : ℕ) (before after : List K) → length before ≡ n + 1 → k < n
        → Same F.ops before (product_of F.ops f k) → Multiplied F.ops (f k) before after → Same F.ops after (product_of F.ops f (k + 1))
    factor_next n k before after long more so_far told i =
        subst (λ m. coeff F.ops after i ≡ coeff F.ops (product_of F.ops f m) i) (sym (add-one k)) (go (cases_lt i (length before)))
      where
        shifted : (i : ℕ) → coeff F.ops (𝟎 ∷ before) i ≡ coeff F.ops (𝟎 ∷ product_of F.ops f k) i
        shifted zero = simp clauses
        shifted (suc i) = simp clauses (so_far i)

        go : (i < length before) ⊎ (length before ≤ i) → coeff F.ops after i ≡ coeff F.ops (product_of F.ops f (suc k)) i
        go (inl h) =
            told.each i h ∙ ap₂ (λ s t. s ⊕ f k ⊗ t) (shifted i) (so_far i) ∙ add_comm F _ _
            ∙ sym (product_more F f k i)
        go (inr h) = coeff_past F.ops after i (omega (arith, told.long)) ∙ sym ((monic_product F f (suc k)).above i (omega arith))

    pub factors_all : (n k : ℕ) (after : List K) → length after ≡ n + 1 → k ≡ n → Same F.ops after (product_of F.ops f k) → after ≡ product_of F.ops f n
    factors_all n k after long e s =
        same_list F.ops after (product_of F.ops f n) (long ∙ add-one n ∙ sym (length_product F f n)) (λ i. s i ∙ ap (λ m. coeff F.ops (product_of F.ops f m) i) e)
