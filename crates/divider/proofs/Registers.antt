-- What the registers of a divider hold, over any monic polynomial: the rule for each register, and the remainder that they are.
use Rattle.std.proofs.Common.{◌≡◌, ℕ, zero, suc, ◌-◌, ◌<◌, ◌≤◌, ◌⊎◌, List, [], ◌∷◌, ◌++◌, reverse, length, replicate, sym, refl, ap, ◌∙◌, inl, inr, arith}
use mathlib.Core.List.{reverse_aux}
use lib.ListN.{length-replicate}
use Rattle.std.proofs.lemmas.Bool.{cases_lt}
use Rattle.field.specs.Field.{Ops}
use Rattle.field.proofs.Ring.{Lawful, ring, zero_add}
use Rattle.polynomial.specs.Coefficients.{coeff, shift, Monic, Remainder}
use Rattle.polynomial.proofs.Clauses.{clauses}
use Rattle.polynomial.proofs.Entries.{coeff_past}
use Rattle.polynomial.proofs.Remainders.{remainder_next, remainder_start, remainder_same, monic_degree, monic_factor}
use Rattle.divider.specs.Registers.{moved, feedback, taken, all_taken}

module _ {K : Type 0} (o : Ops K) where
  pub length_moved : (f before : K) (rs g : List K) → length rs ≤ length g → length (moved o f before rs g) ≡ length rs
  unfolding moved
  length_moved f before [] g h = refl
  length_moved f before (r ∷ rs) [] h = absurd (omega arith)
  length_moved f before (r ∷ rs) (a ∷ g) h = ap suc (length_moved f r rs g (omega arith))

  -- a symbol more, at the end
  pub all_taken_more : (g rs ms : List K) (m : K) → all_taken o g rs (ms ++ m ∷ []) ≡ taken o g (all_taken o g rs ms) m
  unfolding all_taken
  all_taken_more g rs [] m = refl
  all_taken_more g rs (a ∷ ms) m = all_taken_more g (taken o g rs a) ms m

  -- symbols taken in two parts
  pub all_taken_append : (g rs ms ns : List K) → all_taken o g rs (ms ++ ns) ≡ all_taken o g (all_taken o g rs ms) ns
  unfolding all_taken
  all_taken_append g rs [] ns = refl
  all_taken_append g rs (a ∷ ms) ns = all_taken_append g (taken o g rs a) ms ns

  pub all_taken_none : (g rs : List K) → all_taken o g rs [] ≡ rs
  unfolding all_taken
  all_taken_none g rs = refl

module _ {K : Type 0} (F : Lawful K) where
  open F.ops use {nought as 𝟎, unit as 𝟏, sum as ◌⊕◌, product as ◌⊗◌}

  infixl 60 ◌⊕◌
  infixl 70 ◌⊗◌
  -- each register once all have moved
  pub coeff_moved : (f before : K) (rs g : List K) (i : ℕ) → i < length rs → length rs ≤ length g
      → coeff F.ops (moved F.ops f before rs g) i ≡ coeff F.ops (before ∷ rs) i ⊕ f ⊗ coeff F.ops g i
  unfolding moved
  coeff_moved f before [] g i h l = absurd (omega arith)
  coeff_moved f before (r ∷ rs) [] i h l = absurd (omega arith)
  coeff_moved f before (r ∷ rs) (a ∷ g) zero h l = simp clauses
  coeff_moved f before (r ∷ rs) (a ∷ g) (suc i) h l = simp clauses (coeff_moved f r rs g i (omega arith) (omega arith))

  feedback_last : (rs : List K) (m : K) (last : ℕ) → length rs ≡ suc last → feedback F.ops rs m ≡ m ⊕ coeff F.ops rs last
  feedback_last rs m last l = ap (λ n. m ⊕ coeff F.ops rs n) (omega arith)

  -- the rule in its two cases
  pub taken_first : (g rs : List K) (m : K) (last : ℕ) → length rs ≡ suc last → length rs ≤ length g
      → coeff F.ops (taken F.ops g rs m) 0 ≡ (m ⊕ coeff F.ops rs last) ⊗ coeff F.ops g 0
  unfolding taken
  taken_first g rs m last l h =
      coeff_moved _ 𝟎 rs g 0 (omega arith) h ∙ simp (clauses, zero_add) (ap (λ f. f ⊗ coeff F.ops g 0) (feedback_last rs m last l))

  pub taken_next : (g rs : List K) (m : K) (last i : ℕ) → length rs ≡ suc last → length rs ≤ length g → i < last
      → coeff F.ops (taken F.ops g rs m) (suc i) ≡ coeff F.ops rs i ⊕ (m ⊕ coeff F.ops rs last) ⊗ coeff F.ops g (suc i)
  unfolding taken
  taken_next g rs m last i l h k =
      coeff_moved _ 𝟎 rs g (suc i) (omega arith) h ∙ simp clauses (ap (λ f. coeff F.ops rs i ⊕ f ⊗ coeff F.ops g (suc i)) (feedback_last rs m last l))

  -- x^c·(m + x·p) is x·(x^c·p) but for m at x^c
  shift_other : (c : ℕ) (m : K) (p : List K) (i : ℕ) → (i ≡ c → ⊥) → coeff F.ops (shift F.ops c (m ∷ p)) i ≡ coeff F.ops (𝟎 ∷ shift F.ops c p) i
  shift_other zero m p zero n = absurd (n refl)
  shift_other zero m p (suc i) n = simp clauses
  shift_other (suc c) m p zero n = simp clauses
  shift_other (suc c) m p (suc i) n = simp clauses (shift_other c m p i (λ e. n (ap suc e)))

  shift_here : (c : ℕ) (m : K) (p : List K) → coeff F.ops (shift F.ops c (m ∷ p)) c ≡ coeff F.ops (𝟎 ∷ shift F.ops c p) c ⊕ m
  shift_here zero m p = simp (clauses, ring)
  shift_here (suc c) m p = simp clauses (shift_here c m p)

  shift_nothing : (c i : ℕ) → coeff F.ops (shift F.ops c []) i ≡ coeff F.ops [] i
  shift_nothing zero i = simp clauses
  shift_nothing (suc c) zero = simp clauses
  shift_nothing (suc c) (suc i) = simp clauses (shift_nothing c i ∙ simp clauses)

  last_register : (rs : List K) → coeff F.ops rs (length rs - 1) ≡ coeff F.ops (𝟎 ∷ rs) (length rs)
  last_register [] = simp clauses
  last_register (r ∷ rs) = simp clauses (ap (coeff F.ops (r ∷ rs)) (omega arith))

  module _ (g : List K) (c : ℕ) (monic : Monic F.ops g c) where
    -- a monic polynomial of degree c has more than c coefficients
    pub monic_long : c < length g
    monic_long = go (cases_lt c (length g))
      where
        go : (c < length g) ⊎ (length g ≤ c) → c < length g
        go (inl h) = h
        go (inr h) = absurd (F.laws.differ (sym (coeff_past F.ops g c h) ∙ monic.top))

    pub length_taken : (rs : List K) (m : K) → length rs ≡ c → length (taken F.ops g rs m) ≡ c
    unfolding taken
    length_taken rs m l = length_moved F.ops _ 𝟎 rs g (omega (arith, monic_long)) ∙ l

    -- one symbol more of the polynomial, and the registers are its remainder again
    pub remainder_taken : (p rs : List K) (m : K) → length rs ≡ c → Remainder F.ops g c (shift F.ops c p) rs
        → Remainder F.ops g c (shift F.ops c (m ∷ p)) (taken F.ops g rs m)
    unfolding taken
    remainder_taken p rs m l R =
        let f = feedback F.ops rs m in
        remainder_next F g c (shift F.ops c p) rs R 𝟎 m f
        (monic_factor F g c monic f (m ⊕ coeff F.ops (𝟎 ∷ rs) c) (ap (λ t. m ⊕ t) (last_register rs ∙ ap (coeff F.ops (𝟎 ∷ rs)) l))) _ _
        (shift_other c m p) (shift_here c m p) (λ i h. coeff_moved f 𝟎 rs g i (omega arith) (omega (arith, monic_long)))
        (λ i h. coeff_past F.ops _ i (let e = length_moved F.ops f 𝟎 rs g (omega (arith, monic_long)) in omega arith))

    pub length_all_taken : (ms rs : List K) → length rs ≡ c → length (all_taken F.ops g rs ms) ≡ c
    unfolding all_taken
    length_all_taken [] rs l = l
    length_all_taken (m ∷ ms) rs l = length_all_taken ms (taken F.ops g rs m) (length_taken rs m l)

    remainder_all_taken : (ms p rs : List K) → length rs ≡ c → Remainder F.ops g c (shift F.ops c p) rs
        → Remainder F.ops g c (shift F.ops c (reverse_aux ms p)) (all_taken F.ops g rs ms)
    unfolding all_taken
    remainder_all_taken [] p rs l R = R
    remainder_all_taken (m ∷ ms) p rs l R = remainder_all_taken ms (m ∷ p) (taken F.ops g rs m) (length_taken rs m l) (remainder_taken p rs m l R)

    -- registers that are zero at first
    pub registers_long : (ms : List K) → length (all_taken F.ops g (replicate c 𝟎) ms) ≡ c
    registers_long ms = length_all_taken ms (replicate c 𝟎) (length-replicate c 𝟎)

    pub registers_remainder : (ms : List K) → Remainder F.ops g c (shift F.ops c (reverse ms)) (all_taken F.ops g (replicate c 𝟎) ms)
    registers_remainder ms =
        remainder_all_taken ms [] (replicate c 𝟎) (length-replicate c 𝟎)
        (remainder_same F g c [] (shift F.ops c []) _ _ (λ i. sym (shift_nothing c i)) (λ i. refl) (remainder_start F g c (monic_degree F g c monic)))
