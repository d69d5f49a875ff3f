-- The search for the shortest recurrence: its start and its turns, and why no shorter one can be.
use Rattle.std.proofs.Common.{◌≡◌, ℕ, suc, ◌+◌, ◌-◌, ◌<◌, ◌≤◌, ◌⊎◌, List, [], ◌∷◌, sym, ap, ◌∙◌, ap₂, inl, inr, arith}
use Rattle.std.proofs.lemmas.Bool.{cases_lt, cases_eq}
use Rattle.field.proofs.Ring.{Lawful, ring, add_self}
use Rattle.polynomial.specs.Coefficients.{coeff, Same, plus, scale, shift, Monic}
use Rattle.polynomial.proofs.Clauses.{clauses, coeff_scale}
use Rattle.polynomial.proofs.Algebra.{shift_above}
use Rattle.locator.specs.Applied.{applied}
use Rattle.locator.specs.Recurrence.{Holds, Recurrence}
use Rattle.locator.specs.Claims.{Recurrences}
use Rattle.locator.proofs.Monics.{monic_same, monic_unit, monic_plus, monic_shift}
use Rattle.locator.proofs.Sequences.{applied_zero, applied_same, applied_plus, applied_scale, applied_shift, applied_top, applied_swap}

module _ {K : Type 0} (F : Lawful K) where
  open F.ops use {nought as 𝟎, unit as 𝟏, sum as ◌⊕◌, product as ◌⊗◌}

  infixl 60 ◌⊕◌
  infixl 70 ◌⊗◌
  -- A recurrence that misses place k, and one that does not, are together longer than k.
  pub no_shorter : (t : ℕ → K) (k : ℕ) (p q : List K) (l m : ℕ) → Monic F.ops p l → Holds F.ops t k p l → l ≤ k
      → (applied F.ops p t (k - l) ≡ 𝟎 → ⊥) → Monic F.ops q m → Holds F.ops t (suc k) q m → suc k - l ≤ m
  no_shorter t k p q l m hp holds within missed hq holds' = go (cases_lt (m + l) (suc k))
    where
      go : (m + l < suc k) ⊎ (suc k ≤ m + l) → suc k - l ≤ m
      go (inr long) = omega arith
      go (inl short) = absurd (missed (sym one ∙ sym (applied_swap F p q t j) ∙ other))
        where
          j : ℕ
          j = k - l - m

          one : applied F.ops q (applied F.ops p t) j ≡ applied F.ops p t (k - l)
          one = applied_top F q m hq (applied F.ops p t) j (k - l) (omega arith) (λ n from below. holds n (omega arith))

          other : applied F.ops p (applied F.ops q t) j ≡ 𝟎
          other = applied_zero F p (applied F.ops q t) j (λ i n e. term i n e (cases_lt l i))
            where
              term : (i n : ℕ) → n ≡ j + i → (l < i) ⊎ (i ≤ l) → coeff F.ops p i ⊗ applied F.ops q t n ≡ 𝟎
              term i n e (inl high) = simp (hp.above i high, ring)
              term i n e (inr low) = ap (λ a. coeff F.ops p i ⊗ a) (holds' n (omega arith)) ∙ simp ring

  pub start : (t : ℕ → K) → Recurrence F.ops t 0 (𝟏 ∷ []) 0 [] 𝟏
  start t = record {
    monic = monic_unit F;
    within = omega arith;
    holds = λ j l. absurd (omega arith);
    least = λ q m hq h. omega arith;
    old_short = λ i l. simp clauses;
    old_holds = λ j l. absurd (omega arith);
    old_misses = λ j l. absurd (omega arith);
    missed = λ e. F.laws.differ (sym e);
  }

  zeros : (a b c : K) → a ≡ 𝟎 → b ≡ 𝟎 → a ⊕ c ⊗ b ≡ 𝟎
  zeros a b c e f = simp (e, f, ring)

  cancels : (a b c d m : K) → a ≡ d → b ≡ m → c ⊗ m ≡ d → a ⊕ c ⊗ b ≡ 𝟎
  cancels a b c d m e f g = ap₂ (λ s u. s ⊕ c ⊗ u) e f ∙ ap (λ s. d ⊕ s) g ∙ add_self F d

  module _ (t : ℕ → K) (k : ℕ) (poly : List K) (degree : ℕ) (old : List K) (miss : K) (r : Recurrence F.ops t k poly degree old miss) where
    -- lists with zeros more or fewer on top will do
    pub alike : (poly' old' : List K) → Same F.ops poly poly' → Same F.ops old old' → Recurrence F.ops t k poly' degree old' miss
    alike poly' old' same same' = record {
      monic = monic_same F poly poly' degree same r.monic;
      within = r.within;
      holds = λ j l. sym (applied_same F poly poly' same t j) ∙ r.holds j l;
      least = r.least;
      old_short = λ i l. sym (same' i) ∙ r.old_short i l;
      old_holds = λ j l. sym (applied_same F old old' same' t j) ∙ r.old_holds j l;
      old_misses = λ j l. sym (applied_same F old old' same' t j) ∙ r.old_misses j l;
      missed = r.missed;
    }

    sooner : (q : List K) (m : ℕ) → Holds F.ops t (suc k) q m → Holds F.ops t k q m
    sooner q m h j l = h j (omega arith)

    pub kept : applied F.ops poly t (k - degree) ≡ 𝟎 → Recurrence F.ops t (suc k) poly degree old miss
    kept z = record {
      monic = r.monic;
      within = omega (arith, r.within);
      holds = λ j l. go j l (cases_eq j (k - degree));
      least = λ q m hq h. r.least q m hq (sooner q m h);
      old_short = λ i l. r.old_short i (omega arith);
      old_holds = r.old_holds;
      old_misses = r.old_misses;
      missed = r.missed;
    }
      where
        go : (j : ℕ) → j + degree < suc k → (j ≡ k - degree) ⊎ (j ≡ k - degree → ⊥) → applied F.ops poly t j ≡ 𝟎
        go j l (inl e) = ap (applied F.ops poly t) e ∙ z
        go j l (inr ne) = r.holds j (omega (arith, r.within))

    module _ (d : K) (is : d ≡ applied F.ops poly t (k - degree)) where
      pub mended : k < degree + degree → (quotient : K) → quotient ⊗ miss ≡ d
          → (after : List K) → Same F.ops after (plus F.ops poly (scale F.ops quotient (shift F.ops (degree + degree - suc k) old)))
          → Recurrence F.ops t (suc k) after degree old miss
      mended long quotient by after same = record {
        monic = monic_same F _ after degree (λ i. sym (same i)) (monic_plus F poly added degree r.monic low);
        within = omega (arith, r.within);
        holds = λ j l.
            applied_same F after _ same t j
            ∙ applied_plus F poly added t j
            ∙ ap (λ x. applied F.ops poly t j ⊕ x) (applied_scale F quotient (shift F.ops e old) t j ∙ ap (λ x. quotient ⊗ x) (applied_shift F e old t j))
            ∙ go j l (cases_eq j (k - degree));
        least = λ q m hq h. r.least q m hq (sooner q m h);
        old_short = λ i l. r.old_short i (omega arith);
        old_holds = r.old_holds;
        old_misses = r.old_misses;
        missed = r.missed;
      }
        where
          e : ℕ
          e = degree + degree - suc k

          added : List K
          added = scale F.ops quotient (shift F.ops e old)

          low : (i : ℕ) → degree ≤ i → coeff F.ops added i ≡ 𝟎
          low i l =
              let at : i ≡ e + (i - e) = omega (arith, r.within) in
              coeff_scale F quotient (shift F.ops e old) i
              ∙ ap (λ x. quotient ⊗ x) (ap (coeff F.ops (shift F.ops e old)) at ∙ shift_above F e old (i - e) ∙ r.old_short (i - e) (omega (arith, r.within)))
              ∙ simp ring

          go : (j : ℕ) → j + degree < suc k → (j ≡ k - degree) ⊎ (j ≡ k - degree → ⊥) → applied F.ops poly t j ⊕ quotient ⊗ applied F.ops old t (e + j) ≡ 𝟎
          go j l (inl same) =
              cancels _ _ quotient d miss (ap (applied F.ops poly t) same ∙ sym is) (r.old_misses (e + j) (omega (arith, r.within))) by
          go j l (inr other) = zeros _ _ quotient (r.holds j (omega (arith, r.within))) (r.old_holds (e + j) (omega (arith, r.within)))

      pub grown : (d ≡ 𝟎 → ⊥) → degree + degree ≤ k → (quotient : K) → quotient ⊗ miss ≡ d
          → (after : List K) → Same F.ops after (plus F.ops (shift F.ops (suc k - (degree + degree)) poly) (scale F.ops quotient old))
          → Recurrence F.ops t (suc k) after (suc k - degree) poly d
      grown some short quotient by after same = record {
        monic =
            monic_same F _ after (suc k - degree) (λ i. sym (same i))
            (monic_plus F (shift F.ops e poly) (scale F.ops quotient old) (suc k - degree) (monic_shift F e poly degree (suc k - degree) (omega arith) r.monic) low);
        within = omega arith;
        holds = λ j l.
            applied_same F after _ same t j
            ∙ applied_plus F (shift F.ops e poly) (scale F.ops quotient old) t j
            ∙ ap₂ ◌⊕◌ (applied_shift F e poly t j) (applied_scale F quotient old t j)
            ∙ go j l (cases_eq (suc j) degree);
        least = λ q m hq h. no_shorter t k poly q degree m r.monic r.holds r.within (λ z. some (is ∙ z)) hq h;
        old_short = λ i l. r.monic.above i (omega (arith, r.within));
        old_holds = λ j l. r.holds j (omega (arith, r.within));
        old_misses = λ j l. let at : j ≡ k - degree = omega (arith, r.within) in ap (applied F.ops poly t) at ∙ sym is;
        missed = some;
      }
        where
          e : ℕ
          e = suc k - (degree + degree)

          low : (i : ℕ) → suc k - degree ≤ i → coeff F.ops (scale F.ops quotient old) i ≡ 𝟎
          low i l = coeff_scale F quotient old i ∙ ap (λ x. quotient ⊗ x) (r.old_short i (omega arith)) ∙ simp ring

          go : (j : ℕ) → j + (suc k - degree) < suc k → (suc j ≡ degree) ⊎ (suc j ≡ degree → ⊥) → applied F.ops poly t (e + j) ⊕ quotient ⊗ applied F.ops old t j ≡ 𝟎
          go j l (inl same) =
              let at : e + j ≡ k - degree = omega arith in
              cancels _ _ quotient d miss (ap (applied F.ops poly t) at ∙ sym is) (r.old_misses j same) by
          go j l (inr other) = zeros _ _ quotient (r.holds (e + j) (omega arith)) (r.old_holds j (omega arith))

  pub recurrences : Recurrences F.ops
  recurrences = record {
    start = start;
    kept = kept;
    mended = mended;
    grown = grown;
  }
