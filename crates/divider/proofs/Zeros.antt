-- Registers that took zeros and then one symbol.
use Rattle.std.proofs.Common.{◌≡◌, ℕ, zero, suc, ◌-◌, ◌≤◌, List, [], ◌∷◌, ◌++◌, length, replicate, refl, ap, ◌∙◌, ap₂, le_of_suc-le-suc, not-suc-le-zero, arith}
use lib.ListN.{length-replicate}
use Rattle.field.proofs.Ring.{Lawful, ring}
use Rattle.polynomial.specs.Coefficients.{coeff}
use Rattle.polynomial.proofs.Entries.{coeff_zeros}
use Rattle.code.specs.Code.{Code, root}
use Rattle.generator.specs.Generator.{generator}
use Rattle.generator.proofs.Products.{length_product}
use Rattle.divider.specs.Registers.{moved, taken, all_taken, cleared, registers}
use Rattle.divider.proofs.Messages.{steps}

module _ {K : Type 0} (F : Lawful K) where
  open F.ops use {nought as 𝟎, sum as ◌⊕◌, product as ◌⊗◌}

  infixl 60 ◌⊕◌
  infixl 70 ◌⊗◌
  nothing_in : (f b a : K) → f ≡ 𝟎 → b ≡ 𝟎 → b ⊕ f ⊗ a ≡ 𝟎
  nothing_in f b a ef eb = ap₂ (λ x y. x ⊕ y ⊗ a) eb ef ∙ simp ring

  moved_zeros : (f b : K) → f ≡ 𝟎 → b ≡ 𝟎 → (k : ℕ) (g : List K) → k ≤ length g → moved F.ops f b (replicate k 𝟎) g ≡ replicate k 𝟎
  unfolding moved
  moved_zeros f b ef eb zero g h = refl
  moved_zeros f b ef eb (suc k) [] h = absurd (not-suc-le-zero h)
  moved_zeros f b ef eb (suc k) (a ∷ g) h = ap₂ ◌∷◌ (nothing_in f b a ef eb) (moved_zeros f 𝟎 ef refl k g (le_of_suc-le-suc h))

  module _ (c : Code) where
    -- A zero leaves cleared registers cleared.
    zero_taken : taken F.ops (generator F.ops c) (cleared F.ops c) 𝟎 ≡ cleared F.ops c
    unfolding taken
    zero_taken =
        let last = coeff F.ops (cleared F.ops c) (length (cleared F.ops c) - 1) in
        let none : 𝟎 ⊕ last ≡ 𝟎 = F.laws.sum_nought last ∙ coeff_zeros F.ops c.checks (length (cleared F.ops c) - 1) in
        moved_zeros (𝟎 ⊕ last) 𝟎 none refl c.checks (generator F.ops c) (omega (arith, length_product F (root F.ops c) c.checks))

    zeros_taken : (n : ℕ) (ms : List K) → registers F.ops c (replicate n 𝟎 ++ ms) ≡ registers F.ops c ms
    unfolding all_taken
    zeros_taken zero ms = refl
    zeros_taken (suc n) ms =
        ap (λ rs. all_taken F.ops (generator F.ops c) rs (replicate n 𝟎 ++ ms)) zero_taken ∙ zeros_taken n ms

    times_one : (m z x : K) → z ≡ 𝟎 → (m ⊕ z) ⊗ x ≡ m ⊗ x
    times_one m z x e = ap (λ t. (m ⊕ t) ⊗ x) e ∙ simp ring

    next_one : (m z y x : K) → z ≡ 𝟎 → y ≡ 𝟎 → y ⊕ (m ⊕ z) ⊗ x ≡ m ⊗ x
    next_one m z y x ez ey = ap₂ (λ s t. s ⊕ (m ⊕ t) ⊗ x) ey ez ∙ simp ring

    -- After zeros and one symbol, each register is the symbol times the generator's coefficient.
    pub last_symbol : (n : ℕ) (m : K) (last i : ℕ) → suc last ≡ c.checks → i ≤ last → coeff F.ops (registers F.ops c (replicate n 𝟎 ++ m ∷ [])) i ≡ m ⊗ coeff F.ops (generator F.ops c) i
    unfolding all_taken
    last_symbol n m last zero full h =
        ap (λ rs. coeff F.ops rs 0) (zeros_taken n (m ∷ []))
        ∙ (steps F c).first (cleared F.ops c) m last (length-replicate c.checks 𝟎) full
        ∙ times_one m _ _ (coeff_zeros F.ops c.checks last)
    last_symbol n m last (suc i) full h =
        ap (λ rs. coeff F.ops rs (suc i)) (zeros_taken n (m ∷ []))
        ∙ (steps F c).next (cleared F.ops c) m last i (length-replicate c.checks 𝟎) full h
        ∙ next_one m _ _ _ (coeff_zeros F.ops c.checks last) (coeff_zeros F.ops c.checks i)
