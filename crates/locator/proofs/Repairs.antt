-- The errors taken off at the roots of a locator polynomial: step by step, and what comes of it.
use Rattle.std.proofs.Common.{◌≡◌, ℕ, suc, ◌<◌, ◌≤◌, ◌⊎◌, List, [], ◌∷◌, length, set, sym, refl, ap, ◌∙◌, subst, ap₂, inl, inr, arith, length-set}
use Rattle.std.proofs.lemmas.Bool.{cases_eq, cases_lt}
use Rattle.field.specs.Field.{power, alpha_power}
use Rattle.field.specs.Polynomial.{value}
use Rattle.field.proofs.Ring.{Lawful, ring, eq_of_sum, no_divisor, add_self, add_zero}
use Rattle.polynomial.specs.Coefficients.{coeff}
use Rattle.polynomial.specs.Sums.{Each, Distinct}
use Rattle.polynomial.proofs.Entries.{coeff_past, coeff_set_here, coeff_set_other, same_list}
use Rattle.polynomial.proofs.Powers.{power_not_zero}
use Rattle.polynomial.proofs.Sums.{all_map, all_both}
use Rattle.code.specs.Code.{Code, Codeword}
use Rattle.generator.specs.Claims.{Fits}
use Rattle.generator.proofs.Gammas.{gamma_not_zero, gammas_apart}
use Rattle.locator.specs.Applied.{applied, deflated}
use Rattle.locator.specs.Located.{SumsOf, Locates}
use Rattle.locator.specs.Correction.{locator, syndrome, Syndromes, ErrorAt, Repaired}
use Rattle.locator.proofs.Members.{In, member}
use Rattle.locator.proofs.Locating.{decided, no_other, simple, value_at}
use Rattle.locator.proofs.Changes.{amount, by_support}

module _ {K : Type 0} (F : Lawful K) (c : Code) where
  open F.ops use {nought as 𝟎, unit as 𝟏, sum as ◌⊕◌, product as ◌⊗◌}

  infixl 60 ◌⊕◌
  infixl 70 ◌⊗◌
  added : (a e : K) → a ⊕ (a ⊕ e) ≡ e
  added a e = simp ring

  module _ (t : ℕ → K) (poly received : List K) where
    -- no place is done yet
    pub repaired_none : Repaired F.ops c t poly 0 received received
    repaired_none = record { long = refl; each = λ i l. absurd (omega arith); rest = λ i l. refl }

    -- a place where the locator is no root
    pub repaired_kept : (n : ℕ) (after : List K) → Repaired F.ops c t poly n received after → (value F.ops poly (locator F.ops c n) ≡ 𝟎 → ⊥)
        → Repaired F.ops c t poly (suc n) received after
    repaired_kept n after r other = record { long = r.long; each = λ i l. go i l (cases_eq i n); rest = λ i l. r.rest i (omega arith) }
      where
        go : (i : ℕ) → i < suc n → (i ≡ n) ⊎ (i ≡ n → ⊥) → ErrorAt F.ops c t poly i (coeff F.ops received i ⊕ coeff F.ops after i)
        go i l (inr ne) = r.each i (omega arith)
        go i l (inl e) = record {
          none = λ _. ap (λ s. coeff F.ops received i ⊕ s) (r.rest i (omega arith)) ∙ add_self F _;
          some = λ z. absurd (other (sym (ap (λ m. value F.ops poly (locator F.ops c m)) e) ∙ z));
        }

    -- a place where the error e is taken off
    pub repaired_mended : (n : ℕ) (after : List K) → Repaired F.ops c t poly n received after → n < length after
        → (a e : K) → a ≡ coeff F.ops after n → ErrorAt F.ops c t poly n e
        → Repaired F.ops c t poly (suc n) received (set after n (a ⊕ e))
    repaired_mended n after r inside a e is error = record {
      long = length-set after n (a ⊕ e) ∙ r.long;
      each = λ i l. go i l (cases_eq i n);
      rest = λ i l. coeff_set_other F.ops after n i (a ⊕ e) (λ z. absurd (omega arith)) ∙ r.rest i (omega arith);
    }
      where
        here : coeff F.ops received n ⊕ coeff F.ops (set after n (a ⊕ e)) n ≡ e
        here = ap₂ ◌⊕◌ (sym (r.rest n (omega arith)) ∙ sym is) (coeff_set_here F.ops after n (a ⊕ e) inside) ∙ added a e

        go : (i : ℕ) → i < suc n → (i ≡ n) ⊎ (i ≡ n → ⊥) → ErrorAt F.ops c t poly i (coeff F.ops received i ⊕ coeff F.ops (set after n (a ⊕ e)) i)
        go i l (inr ne) =
            subst (ErrorAt F.ops c t poly i) (ap (λ s. coeff F.ops received i ⊕ s) (sym (coeff_set_other F.ops after n i (a ⊕ e) ne))) (r.each i (omega arith))
        go i l (inl at) =
            subst (λ m. ErrorAt F.ops c t poly m (coeff F.ops received m ⊕ coeff F.ops (set after n (a ⊕ e)) m)) (sym at)
            (subst (ErrorAt F.ops c t poly n) (sym here) error)

    -- the error at a root, from the value y = e·X^s that it adds to the power sums
    pub error_by : (i : ℕ) (e y : K) → value F.ops poly (locator F.ops c i) ≡ 𝟎
        → y ⊗ value F.ops (deflated F.ops (locator F.ops c i) poly) (locator F.ops c i) ≡ applied F.ops (deflated F.ops (locator F.ops c i) poly) t 0
        → e ⊗ power F.ops (locator F.ops c i) c.first ≡ y → ErrorAt F.ops c t poly i e
    error_by i e y root told is = record {
      none = λ other. absurd (other root);
      some = λ _. ap (λ s. s ⊗ value F.ops (deflated F.ops (locator F.ops c i) poly) (locator F.ops c i)) is ∙ told;
    }

  module _ (fits : Fits F.ops c) where
    -- places below the length have different locators
    pub other_locator : (i j : ℕ) → i < c.symbols → j < c.symbols → (i ≡ j → ⊥) → locator F.ops c i ≡ locator F.ops c j → ⊥
    other_locator i j hi hj n e = n (gammas_apart F c fits i j hi hj e)

    pub locators_apart : (ls : List ℕ) → Each (λ i. i < c.symbols) ls → Distinct (λ i. i) ls → Distinct (locator F.ops c) ls
    locators_apart [] h d = tt
    locators_apart (j ∷ ls) h d =
        (all_both (λ i. i < c.symbols) (λ i. i ≡ j → ⊥) _ (λ i l n. other_locator i j l h.0 n) ls h.1 d.0, locators_apart ls h.1 d.1)

    pub scale_not_zero : (i : ℕ) → power F.ops (locator F.ops c i) c.first ≡ 𝟎 → ⊥
    scale_not_zero i = power_not_zero F (locator F.ops c i) (power_not_zero F (alpha_power F.ops c.step) (gamma_not_zero F c fits) i) c.first

    same_factor : (e d s q : K) → e ⊗ s ⊗ q ≡ d ⊗ s ⊗ q → (s ≡ 𝟎 → ⊥) → (q ≡ 𝟎 → ⊥) → e ≡ d
    same_factor e d s q h hs hq = eq_of_sum F e d (no_divisor F (e ⊕ d) s (no_divisor F ((e ⊕ d) ⊗ s) q (spread ∙ ap (λ u. u ⊕ d ⊗ s ⊗ q) h ∙ add_self F _) hq) hs)
      where
        spread : (e ⊕ d) ⊗ s ⊗ q ≡ e ⊗ s ⊗ q ⊕ d ⊗ s ⊗ q
        spread = simp ring

    same_rest : (r a w : K) → r ⊕ a ≡ r ⊕ w → a ≡ w
    same_rest r a w e = sym (added r a) ∙ ap (λ s. r ⊕ s) e ∙ added r w

    -- the roots of a locator polynomial among the locators are those of its list
    pub root_listed : (ls : List ℕ) → Each (λ i. i < c.symbols) ls → Distinct (λ i. i) ls → (poly : List K) → Locates F.ops (locator F.ops c) ls poly
        → (i : ℕ) → i < c.symbols → value F.ops poly (locator F.ops c i) ≡ 𝟎 → In i ls
    root_listed ls inside apart poly h i l root = go (member i ls)
      where
        go : In i ls ⊎ Each (λ a. a ≡ i → ⊥) ls → In i ls
        go (inl m) = m
        go (inr off) =
            absurd (no_other F (locator F.ops c) ls (locators_apart ls inside apart) poly h (locator F.ops c i) root
            (all_both (λ a. a < c.symbols) (λ a. a ≡ i → ⊥) _ (λ a m n. other_locator a i m l n) ls inside off))

    -- A received word and a codeword that agree off the places of a list.
    module _ (received w : List K) (long : length received ≡ c.symbols) (codeword : Codeword F.ops c w) (ls : List ℕ)
        (inside : Each (λ i. i < c.symbols) ls) (apart : Distinct (λ i. i) ls)
        (agree : (i : ℕ) → Each (λ a. a ≡ i → ⊥) ls → coeff F.ops received i ≡ coeff F.ops w i) where
      -- the syndromes are the power sums of the differences
      pub syndrome_sums : (t : ℕ → K) → Syndromes F.ops c received t → SumsOf F.ops t c.checks (amount F c received w) (locator F.ops c) ls
      syndrome_sums t begins = record {
        apart = locators_apart ls inside apart;
        sums = λ k l.
            begins k l
            ∙ sym (by_support F c received k ls apart w (all_map _ _ (λ i h. omega (arith, h, codeword.long)) ls inside) agree
            ∙ ap (λ s. syndrome F.ops c received k ⊕ s) (codeword.zero_at_roots k l) ∙ add_zero F _);
      }

      -- so with the errors taken off it is the codeword
      pub repaired_is : (t : ℕ → K) → Syndromes F.ops c received t → length ls ≤ c.checks → (poly : List K) → Locates F.ops (locator F.ops c) ls poly
          → (after : List K) → Repaired F.ops c t poly c.symbols received after → after ≡ w
      repaired_is t begins few poly h after r =
          same_list F.ops after w (r.long ∙ long ∙ sym codeword.long) (λ i. each i (cases_lt i c.symbols))
        where
          x : ℕ → K
          x = locator F.ops c

          off : (i : ℕ) → (value F.ops poly (x i) ≡ 𝟎 → ⊥) → Each (λ a. a ≡ i → ⊥) ls
          off i other = all_map (λ a. value F.ops poly (x a) ≡ 𝟎) _ (λ a z e. other (sym (ap (λ m. value F.ops poly (x m)) e) ∙ z)) ls h.roots

          inner : (i : ℕ) → i < c.symbols → (value F.ops poly (x i) ≡ 𝟎) ⊎ (value F.ops poly (x i) ≡ 𝟎 → ⊥) → coeff F.ops after i ≡ coeff F.ops w i
          inner i l (inr other) = sym (eq_of_sum F _ _ ((r.each i l).none other)) ∙ agree i (off i other)
          inner i l (inl root) =
              same_rest (coeff F.ops received i) _ _
              (same_factor _ _ (power F.ops (x i) c.first) (value F.ops (deflated F.ops (x i) poly) (x i))
              ((r.each i l).some root ∙ value_at F x t c.checks (amount F c received w) ls (syndrome_sums t begins) few poly h i (root_listed ls inside apart poly h i l root))
              (scale_not_zero i) (simple F x ls (locators_apart ls inside apart) poly h (x i) root))

          each : (i : ℕ) → (i < c.symbols) ⊎ (c.symbols ≤ i) → coeff F.ops after i ≡ coeff F.ops w i
          each i (inl l) = inner i l (decided F (value F.ops poly (x i)) 𝟎)
          each i (inr l) =
              coeff_past F.ops after i (omega (arith, r.long, long)) ∙ sym (coeff_past F.ops w i (omega (arith, codeword.long)))
