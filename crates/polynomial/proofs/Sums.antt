-- Power sums: where as many of them vanish as there are places, every value is zero.
use Rattle.std.proofs.Common.{◌≡◌, ℕ, suc, ◌<◌, ◌≤◌, List, [], ◌∷◌, length, refl, ◌∙◌, arith}
use Rattle.field.specs.Field.{Ops, power}
use Rattle.field.proofs.Ring.{Lawful, ring, eq_of_sum, no_divisor, mul_left_comm}
use Rattle.polynomial.specs.Sums.{Each, Distinct, psum}
use Rattle.polynomial.proofs.Clauses.{power_zero, power_suc}

pub all_map : {A : Type 0} (P Q : A → Type 0) → ((a : A) → P a → Q a) → (ls : List A) → Each P ls → Each Q ls
all_map P Q f [] h = tt
all_map P Q f (a ∷ ls) h = (f a h.0, all_map P Q f ls h.1)

pub all_both : {A : Type 0} (P Q R : A → Type 0) → ((a : A) → P a → Q a → R a) → (ls : List A) → Each P ls → Each Q ls → Each R ls
all_both P Q R f [] h k = tt
all_both P Q R f (a ∷ ls) h k = (f a h.0 k.0, all_both P Q R f ls h.1 k.1)

module _ {K A : Type 0} (o : Ops K) where
  pub psum_nil : (v x : A → K) (k : ℕ) → psum o v x [] k ≡ o.nought
  unfolding psum
  psum_nil v x k = refl

  pub psum_cons : (v x : A → K) (a : A) (ls : List A) (k : ℕ) → psum o v x (a ∷ ls) k ≡ o.sum (o.product (v a) (power o (x a) k)) (psum o v x ls k)
  unfolding psum
  psum_cons v x a ls k = refl

pub ruleset sums = (psum_nil, psum_cons, power_zero, power_suc)

module _ {K : Type 0} (F : Lawful K) where
  open F.ops use {nought as 𝟎, sum as ◌⊕◌, product as ◌⊗◌}

  infixl 60 ◌⊕◌
  infixl 70 ◌⊗◌
  sum_zeros : (a q p x : K) → a ⊕ q ≡ 𝟎 → x ⊗ a ⊕ p ≡ 𝟎 → p ⊕ x ⊗ q ≡ 𝟎
  sum_zeros a q p x e f = rw (← eq_of_sum F a q e, ← eq_of_sum F (x ⊗ a) p f) (simp ring)

module _ {K A : Type 0} (F : Lawful K) where
  open F.ops use {nought as 𝟎, sum as ◌⊕◌, product as ◌⊗◌}

  infixl 60 ◌⊕◌
  infixl 70 ◌⊗◌
  pub psum_zero : (v x : A → K) (ls : List A) (k : ℕ) → Each (λ a. v a ≡ 𝟎) ls → psum F.ops v x ls k ≡ 𝟎
  psum_zero v x [] k h = simp sums
  psum_zero v x (a ∷ ls) k h = simp (sums, ring, h.0, psum_zero v x ls k h.1)

  -- with each value times its locator + y, a sum is the next one and y times this one
  pub psum_lower : (v x : A → K) (y : K) (ls : List A) (k : ℕ)
      → psum F.ops (λ a. v a ⊗ (x a ⊕ y)) x ls k ≡ psum F.ops v x ls (suc k) ⊕ y ⊗ psum F.ops v x ls k
  psum_lower v x y [] k = simp (sums, ring)
  psum_lower v x y (a ∷ ls) k = rw (psum_cons, psum_lower v x y ls k) (simp (sums, ring))

  pub power_sums : (m : ℕ) (v x : A → K) (ls : List A) → length ls ≤ m → Distinct x ls → ((k : ℕ) → k < m → psum F.ops v x ls k ≡ 𝟎) → Each (λ a. v a ≡ 𝟎) ls
  power_sums m v x [] short d h = tt
  power_sums m v x (b ∷ ls) short d h =
      let w : A → K = λ a. v a ⊗ (x a ⊕ x b) in
      let shifted : (k : ℕ) → k < length ls → psum F.ops w x ls k ≡ 𝟎 = λ k kl.
      psum_lower v x (x b) ls k
      ∙ sum_zeros F (v b ⊗ power F.ops (x b) k) (psum F.ops v x ls k) (psum F.ops v x ls (suc k)) (x b)
      (rw psum_cons at (h k (omega arith))) (rw (psum_cons, power_suc, mul_left_comm) at (h (suc k) (omega arith))) in
      let rest : Each (λ a. v a ≡ 𝟎) ls =
      all_both (λ a. x a ≡ x b → ⊥) (λ a. w a ≡ 𝟎) (λ a. v a ≡ 𝟎)
      (λ a n e. no_divisor F (v a) (x a ⊕ x b) e (λ z. n (eq_of_sum F (x a) (x b) z))) ls d.0 (power_sums (length ls) w x ls (omega arith) d.1 shifted) in
      (simp (psum_cons, power_zero, ring, psum_zero v x ls 0 rest) at (h 0 (omega arith)), rest)
