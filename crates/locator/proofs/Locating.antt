-- The shortest recurrence of power sums is the locator polynomial of their entries; its roots, and the values that it tells.
use Rattle.std.proofs.Common.{◌≡◌, ℕ, zero, suc, ◌+◌, ◌<◌, ◌≤◌, Bool, true, false, ◌⊎◌, List, [], ◌∷◌, length, sym, refl, ap, ◌∙◌, subst, inl, inr, arith}
use Rattle.std.proofs.lemmas.Bool.Decides.{not_from_Decides}
use Rattle.field.specs.Polynomial.{value}
use Rattle.field.proofs.Ring.{Lawful, ring, mul_comm, mul_zero, no_divisor}
use Rattle.polynomial.specs.Coefficients.{coeff, times, Monic}
use Rattle.polynomial.specs.Sums.{Each, Distinct, psum}
use Rattle.polynomial.proofs.Clauses.{values, power_zero}
use Rattle.polynomial.proofs.Algebra.{value_times}
use Rattle.polynomial.proofs.Sums.{all_map, all_both, psum_cons, psum_zero, power_sums}
use Rattle.locator.specs.Applied.{applied, deflated}
use Rattle.locator.specs.Recurrence.{Recurrence}
use Rattle.locator.specs.Located.{SumsOf, Locates}
use Rattle.locator.specs.Claims.{Locators}
use Rattle.locator.proofs.Members.{In, all_in, all_each}
use Rattle.locator.proofs.Monics.{monic_unit, monic_factor, monic_times}
use Rattle.locator.proofs.Sequences.{applied_within, applied_psum}
use Rattle.locator.proofs.Quotients.{no_root, monic_deflated, other_root, few, few_beside}

module _ {K : Type 0} (F : Lawful K) where
  -- elements are the same, or differ
  pub decided : (x y : K) → (x ≡ y) ⊎ (x ≡ y → ⊥)
  decided x y = go _ refl
    where
      go : (t : Bool) → F.ops.same x y ≡ t → (x ≡ y) ⊎ (x ≡ y → ⊥)
      go true e = inl ((F.laws.sameness x y).0 e)
      go false e = inr (not_from_Decides (F.ops.same x y) (F.laws.sameness x y) e)

module _ {K A : Type 0} (F : Lawful K) where
  open F.ops use {nought as 𝟎, unit as 𝟏, sum as ◌⊕◌, product as ◌⊗◌}

  infixl 60 ◌⊕◌
  infixl 70 ◌⊗◌
  -- a sum of which one term is left
  psum_one : (w x : A → K) (ls : List A) → Distinct x ls → (b : A) → In b ls → Each (λ a. (x a ≡ x b → ⊥) → w a ≡ 𝟎) ls → psum F.ops w x ls 0 ≡ w b
  psum_one w x [] d b i h = absurd i
  psum_one w x (a ∷ ls) d b (inl e) h =
      let rest = all_both (λ c. x c ≡ x a → ⊥) (λ c. (x c ≡ x b → ⊥) → w c ≡ 𝟎) (λ c. w c ≡ 𝟎) (λ c m f. f (λ z. m (z ∙ ap x (sym e)))) ls d.0 h.1 in
      simp (psum_cons, power_zero, ring, psum_zero F w x ls 0 rest, e)
  psum_one w x (a ∷ ls) d b (inr i) h =
      let here : w a ≡ 𝟎 = h.0 (λ z. all_in (λ c. x c ≡ x a → ⊥) b ls d.0 i (sym z)) in
      simp (psum_cons, here, ring, psum_one w x ls d.1 b i h.1)

  module _ (x : A → K) where
    -- the locator polynomial of no entry, and of one more
    pub locates_none : Locates F.ops x [] (𝟏 ∷ [])
    locates_none = record { monic = monic_unit F; roots = tt }

    pub locates_more : (a : A) (ls : List A) (p : List K) → Locates F.ops x ls p → Locates F.ops x (a ∷ ls) (times F.ops (x a ∷ 𝟏 ∷ []) p)
    locates_more a ls p h = record {
      monic = let e : 1 + length ls ≡ suc (length ls) = omega arith in subst (Monic F.ops _) e (monic_times F (x a ∷ 𝟏 ∷ []) p 1 (length ls) (monic_factor F (x a)) h.monic);
      roots = (value_times F _ p (x a) ∙ simp (values, ring), all_map _ _ (λ b e. value_times F _ p (x b) ∙ simp (e, ring)) ls h.roots);
    }

    located_by : (ls : List A) → (p : List K) × Locates F.ops x ls p
    located_by [] = (𝟏 ∷ [], locates_none)
    located_by (a ∷ ls) = let h = located_by ls in (times F.ops (x a ∷ 𝟏 ∷ []) h.0, locates_more a ls h.0 h.1)

    module _ (ls : List A) (d : Distinct x ls) (poly : List K) (h : Locates F.ops x ls poly) where
      pub no_other : (y : K) → value F.ops poly y ≡ 𝟎 → Each (λ a. x a ≡ y → ⊥) ls → ⊥
      no_other y root others = let n = few_beside F x ls d poly (length ls) y h.monic root others h.roots in omega arith

      pub simple : (y : K) → value F.ops poly y ≡ 𝟎 → value F.ops (deflated F.ops y poly) y ≡ 𝟎 → ⊥
      simple y root double = go (length ls) refl h.monic
        where
          each : (a : A) → value F.ops poly (x a) ≡ 𝟎 → (x a ≡ y) ⊎ (x a ≡ y → ⊥) → value F.ops (deflated F.ops y poly) (x a) ≡ 𝟎
          each a e (inl same) = ap (value F.ops (deflated F.ops y poly)) same ∙ double
          each a e (inr other) = other_root F poly y (x a) root other e

          go : (m : ℕ) → m ≡ length ls → Monic F.ops poly m → ⊥
          go zero e monic = no_root F poly y monic root
          go (suc m) e monic =
              let n = few F x ls d (deflated F.ops y poly) m (monic_deflated F y poly m monic)
              (all_map (λ a. value F.ops poly (x a) ≡ 𝟎) _ (λ a r. each a r (decided F (x a) y)) ls h.roots) in
              omega arith

    module _ (t : ℕ → K) (n : ℕ) (v : A → K) (ls : List A) (s : SumsOf F.ops t n v x ls) where
      -- what a polynomial gives that reads no more than n places
      applied_sums : (p : List K) (m j : ℕ) → ((i : ℕ) → m < i → coeff F.ops p i ≡ 𝟎) → j + m < n
          → applied F.ops p t j ≡ psum F.ops (λ a. v a ⊗ value F.ops p (x a)) x ls j
      applied_sums p m j above room =
          applied_within F p m above t (psum F.ops v x ls) j (λ k l. s.sums k (omega arith)) ∙ applied_psum F p v x ls j

      pub value_at : length ls ≤ n → (poly : List K) → Locates F.ops x ls poly → (b : A) → In b ls
          → applied F.ops (deflated F.ops (x b) poly) t 0 ≡ v b ⊗ value F.ops (deflated F.ops (x b) poly) (x b)
      value_at room poly h b i = go (length ls) refl h.monic
        where
          q : List K
          q = deflated F.ops (x b) poly

          root : value F.ops poly (x b) ≡ 𝟎
          root = all_in (λ a. value F.ops poly (x a) ≡ 𝟎) b ls h.roots i

          others : Each (λ a. (x a ≡ x b → ⊥) → v a ⊗ value F.ops q (x a) ≡ 𝟎) ls
          others = all_map (λ a. value F.ops poly (x a) ≡ 𝟎) _ (λ a e other. ap (λ z. v a ⊗ z) (other_root F poly (x b) (x a) root other e) ∙ mul_zero F (v a)) ls h.roots

          go : (m : ℕ) → m ≡ length ls → Monic F.ops poly m → applied F.ops q t 0 ≡ v b ⊗ value F.ops q (x b)
          go zero e monic = absurd (no_root F poly (x b) monic root)
          go (suc m) e monic =
              applied_sums q m 0 (monic_deflated F (x b) poly m monic).above (omega arith)
              ∙ psum_one (λ a. v a ⊗ value F.ops q (x a)) x ls s.apart b i others

      module _ (some : Each (λ a. v a ≡ 𝟎 → ⊥) ls) (room : length ls + length ls ≤ n) (poly : List K) (degree : ℕ) (old : List K) (miss : K)
          (r : Recurrence F.ops t n poly degree old miss) where
        low : degree ≤ length ls
        low =
            let p = located_by ls in
            r.least p.0 (length ls) p.1.monic
            (λ j l. applied_sums p.0 (length ls) j p.1.monic.above l
            ∙ psum_zero F _ x ls j (all_map (λ a. value F.ops p.0 (x a) ≡ 𝟎) _ (λ a e. ap (λ z. v a ⊗ z) e ∙ mul_zero F (v a)) ls p.1.roots))

        roots : Each (λ a. value F.ops poly (x a) ≡ 𝟎) ls
        roots =
            all_both (λ a. v a ≡ 𝟎 → ⊥) (λ a. v a ⊗ value F.ops poly (x a) ≡ 𝟎) _ (λ a other e. no_divisor F _ (v a) (mul_comm F _ (v a) ∙ e) other) ls some
            (power_sums F (length ls) (λ a. v a ⊗ value F.ops poly (x a)) x ls (omega arith) s.apart
            (λ k l. let b : degree ≤ length ls = low in sym (applied_sums poly degree k r.monic.above (omega arith)) ∙ r.holds k (omega arith)))

        pub degree_is : degree ≡ length ls
        degree_is = omega (arith, low, few F x ls s.apart poly degree r.monic roots)

        pub located : Locates F.ops x ls poly
        located = record { monic = subst (Monic F.ops poly) degree_is r.monic; roots = roots }

pub locators : {K : Type 0} (F : Lawful K) → Locators F.ops
locators F = record {
  of_sums = applied_psum F;
  located = λ t n v x ls s some room poly degree old miss r. (degree_is F x t n v ls s some room poly degree old miss r, located F x t n v ls s some room poly degree old miss r);
  no_other = no_other F;
  simple = simple F;
  values = λ t n v x ls s room poly h. all_each _ ls (value_at F x t n v ls s room poly h);
}
