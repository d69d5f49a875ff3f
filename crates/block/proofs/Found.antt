-- Steps of the search for the first broken lane and root, and what its answer says of all lanes.
use Rattle.std.proofs.Common.{◌≡◌, ℕ, zero, suc, ◌+◌, ◌-◌, ◌<◌, ◌≤◌, Bool, true, false, cond, not, eqb, List, length, Some, None, Option, sym, refl, ap, ◌∙◌, subst, ⊎_elim, add-one, arith, eq-eqb, eqb-true}
use Rattle.std.proofs.lemmas.Bool.{cases_lt, false≢true}
use Rattle.field.specs.First.{first_of}
use Rattle.field.proofs.Firsts.{first_found, first_passed, none_passes, none_found, IsFirst, is_first}
use Rattle.code.specs.Code.{telemetry, Codeword}
use Rattle.dual_form.specs.DualForm.{dual_ops}
use Rattle.dual_form.specs.DualLaws.{dual_laws}
use Rattle.block.specs.Depths.{is_depth, block_length}
use Rattle.block.specs.Lanes.{word}
use Rattle.block.specs.Verdicts.{number, Found, all_zero, broken, Answer, checked, refused, sum_at, is_broken, broken_root, broken_or, first_broken, check_of, First, Accepts}
use Rattle.block.specs.declared.fault.BlockFault.TheVariants.{NoDepth, BlockLength}
use Rattle.block.proofs.Places.{length_word}

module _ (d : ℕ) (block : List ℕ) where
  pub lanes_opened : (l : ℕ) → l < d → first_broken d block (d - l) l ≡ broken_or l (broken_root d block l) (first_broken d block (d - (l + 1)) (l + 1))
  unfolding first_broken
  lanes_opened l within =
      let e : d - l ≡ suc (d - (l + 1)) = omega arith in
      ap (λ k. first_broken d block k l) e ∙ sym (ap (λ m. broken_or l (broken_root d block l) (first_broken d block (d - (l + 1)) m)) (add-one l))

  pub lanes_done : (l : ℕ) → d ≤ l → first_broken d block (d - l) l ≡ all_zero
  unfolding first_broken
  lanes_done l past = let e : d - l ≡ 0 = omega arith in ap (λ k. first_broken d block k l) e

  -- One root at which the sum is zero, and one at which it is not.
  module _ (l j : ℕ) (within : j < 144) (rest : Found) where
    pub root_passed : dual_ops.same (sum_at d block l j) dual_ops.nought ≡ true → broken_or l (first_of (is_broken d block l) (144 - (j + 1)) (j + 1)) rest ≡ broken_or l (first_of (is_broken d block l) (144 - j) j) rest
    root_passed e = ap (λ f. broken_or l f rest) (first_passed (is_broken d block l) 144 j within (ap not e))

    pub root_stops : dual_ops.same (sum_at d block l j) dual_ops.nought ≡ false → broken l j ≡ broken_or l (first_of (is_broken d block l) (144 - j) j) rest
    root_stops e = sym (ap (λ f. broken_or l f rest) (first_found (is_broken d block l) 144 j within (ap not e)))

  -- A sum is zero exactly where the test finds nothing.
  sum_zero : (l j : ℕ) → is_broken d block l j ≡ false → sum_at d block l j ≡ dual_ops.nought
  sum_zero l j e = (dual_laws.sameness (sum_at d block l j) dual_ops.nought).0 (flipped (dual_ops.same (sum_at d block l j) dual_ops.nought) e)
    where
      flipped : (b : Bool) → not b ≡ false → b ≡ true
      flipped true e = refl
      flipped false e = sym e

  sum_not_zero : (l j : ℕ) → is_broken d block l j ≡ true → sum_at d block l j ≡ dual_ops.nought → ⊥
  sum_not_zero l j e zero_there = false≢true (sym (ap not ((dual_laws.sameness (sum_at d block l j) dual_ops.nought).1 zero_there)) ∙ e)

  zero_sum : (l j : ℕ) → sum_at d block l j ≡ dual_ops.nought → is_broken d block l j ≡ false
  zero_sum l j e = ap not ((dual_laws.sameness (sum_at d block l j) dual_ops.nought).1 e)

  -- A lane is a codeword exactly where no root is found at which it is broken.
  lane_sound : (l : ℕ) → broken_root d block l ≡ None → Codeword dual_ops telemetry (word d block l)
  unfolding sum_at
  lane_sound l e = record {
    long = length_word d block l;
    zero_at_roots = λ k h. sum_zero l (112 + k) (none_passes (is_broken d block l) 32 112 e (112 + k) (omega arith) (omega arith));
  }

  sound_lane : (l : ℕ) → Codeword dual_ops telemetry (word d block l) → broken_root d block l ≡ None
  unfolding sum_at
  sound_lane l is_word_sound = none_found (is_broken d block l) 32 112
      (λ i low high. let e : 112 + (i - 112) ≡ i = omega arith in
      zero_sum l i (subst (λ j. sum_at d block l j ≡ dual_ops.nought) e (is_word_sound.zero_at_roots (i - 112) (omega arith))))

  -- The whole search over the k lanes from l on.
  all_sound : (k l : ℕ) → first_broken d block k l ≡ all_zero → (i : ℕ) → l ≤ i → i < l + k → Codeword dual_ops telemetry (word d block i)
  unfolding first_broken
  all_sound zero l e i low high = absurd (omega arith)
  all_sound (suc k) l e i low high = at (broken_root d block l) refl e (λ none later. all_sound k (suc l) none i later (omega arith))
    where
      at : (r : Option ℕ) → broken_root d block l ≡ r → broken_or l r (first_broken d block k (suc l)) ≡ all_zero → (first_broken d block k (suc l) ≡ all_zero → suc l ≤ i → Codeword dual_ops telemetry (word d block i)) → Codeword dual_ops telemetry (word d block i)
      at None here e more = ⊎_elim (λ later. more e later) (λ h. let same : l ≡ i = omega arith in subst (λ n. Codeword dual_ops telemetry (word d block n)) same (lane_sound l here)) (cases_lt l i)
      at (Some j) here e more = cc

  sound_all : (k l : ℕ) → ((i : ℕ) → l ≤ i → i < l + k → Codeword dual_ops telemetry (word d block i)) → first_broken d block k l ≡ all_zero
  unfolding first_broken
  sound_all zero l all = refl
  sound_all (suc k) l all =
      ap (λ r. broken_or l r (first_broken d block k (suc l))) (sound_lane l (all l (omega arith) (omega arith)))
      ∙ sound_all k (suc l) (λ i low high. all i (omega arith) (omega arith))

  -- What a lane and root that were found among the k lanes from l on are.
  pub record FoundAmong (k l m j : ℕ) : Type 0 where
    pub low : l ≤ m
    pub high : m < l + k
    pub here : IsFirst (is_broken d block m) 32 112 j
    pub before : (i : ℕ) → l ≤ i → i < m → Codeword dual_ops telemetry (word d block i)

  found_among : (k l m j : ℕ) → first_broken d block k l ≡ broken m j → FoundAmong k l m j
  unfolding first_broken
  found_among zero l m j e = cc
  found_among (suc k) l m j e = at (broken_root d block l) refl e (λ later. found_among k (suc l) m j later)
    where
      at : (r : Option ℕ) → broken_root d block l ≡ r → broken_or l r (first_broken d block k (suc l)) ≡ broken m j → (first_broken d block k (suc l) ≡ broken m j → FoundAmong k (suc l) m j) → FoundAmong (suc k) l m j
      at None here e more =
          let later = more e in
          record {
            low = omega (arith, later.low);
            high = omega (arith, later.high);
            here = later.here;
            before = λ i low high.
                ⊎_elim (λ h. later.before i h high)
                (λ h. let same : l ≡ i = omega arith in subst (λ n. Codeword dual_ops telemetry (word d block n)) same (lane_sound l here)) (cases_lt l i);
          }
      at (Some i) here e more =
          let lanes : l ≡ m = cc in
          let roots : i ≡ j = cc in
          record {
            low = omega arith;
            high = omega arith;
            here = subst (λ n. IsFirst (is_broken d block n) 32 112 j) lanes (is_first (is_broken d block l) 32 112 j (here ∙ ap Some roots));
            before = λ n low high. absurd (omega arith);
          }

  -- What the check's answer says.
  named : (l j : ℕ) → first_broken d block d 0 ≡ broken l j → First block d l j
  named l j e =
      let found = found_among d 0 l j e in
      record {
        lane = omega (arith, found.high);
        root = (found.here.low, found.here.high);
        not_zero = sum_not_zero l j found.here.passes_here;
        lanes_before = λ k h. found.before k (omega arith) h;
        roots_before = λ i low high. sum_zero l i (found.here.before i low high);
      }

  answer_as : Bool → Bool → Answer
  answer_as known long = cond known (cond long (checked (first_broken d block d 0)) (refused (number BlockLength))) (refused (number NoDepth))

  told : (known long : Bool) → is_depth d ≡ known → eqb (length block) (block_length d) ≡ long → Accepts block d (answer_as known long)
  unfolding answer_as
  told true true known long = record {
    only_codewords = λ e. record {
      depth = known;
      long = eqb-true (length block) (block_length d) long;
      lanes = λ l h. all_sound d 0 (unchecked e) l (omega arith) (omega arith);
    };
    every_codeword = λ s. ap checked (sound_all d 0 (λ i low high. s.lanes i (omega arith)));
    names_first = λ l j e. named l j (unchecked e);
  }
    where
      unchecked : {f g : Found} → checked f ≡ checked g → f ≡ g
      unchecked e = cc
  told true false known long = record {
    only_codewords = λ e. absurd (never e);
    every_codeword = λ s. absurd (false≢true (sym long ∙ eq-eqb (length block) (block_length d) s.long));
    names_first = λ l j e. absurd (never e);
  }
    where
      never : {f : Found} → refused (number BlockLength) ≡ checked f → ⊥
      never e = cc
  told false long known length_is = record {
    only_codewords = λ e. absurd (never e);
    every_codeword = λ s. absurd (false≢true (sym known ∙ s.depth));
    names_first = λ l j e. absurd (never e);
  }
    where
      never : {f : Found} → refused (number NoDepth) ≡ checked f → ⊥
      never e = cc

  pub accepts : (a : Answer) → a ≡ check_of block d → Accepts block d a
  unfolding answer_as
  accepts a e = subst (Accepts block d) (sym e) (told (is_depth d) (eqb (length block) (block_length d)) refl refl)
