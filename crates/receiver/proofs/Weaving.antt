-- The places of lanes in a message, and what writing to one of them leaves.
use Rattle.std.proofs.Common.{◌≡◌, ℕ, ◌+◌, ◌*◌, ◌/◌, ◌%◌, ◌<◌, ◌≤◌, ◌⊎◌, List, length, get_or, set, true, sym, ap, ◌∙◌, inl, inr, arith}
use Rattle.std.proofs.lemmas.Nat.{mul-add-lt, div-mul-add, mod-mul-add}
use Rattle.std.proofs.lemmas.List.{get_or-set_same, get_or-set_other}
use Rattle.std.proofs.lemmas.Bool.{cases_eq}
use Rattle.std.proofs.lemmas.Bool.Decides.{nat_tests}
use Rattle.block.specs.Depths.{is_depth}
use Rattle.receiver.specs.Lanes.{OthersKept}

-- There are at most 8 lanes.
pub depth_most : (d : ℕ) → is_depth d ≡ true → d ≤ 8
depth_most d known = grind (arith, nat_tests)

-- A place of n rows of d.
pub place_in : (n d i l : ℕ) → i < n → l < d → i * d + l < n * d
place_in n d i l h k = omega (arith, mul-add-lt i d l n h k)

-- Two places are the same only in the same row and lane.
same_row : (d i j k l : ℕ) → k < d → l < d → i * d + k ≡ j * d + l → i ≡ j
same_row d i j k l inside inside' e = sym (div-mul-add i d k inside) ∙ ap (λ p. p / d) e ∙ div-mul-add j d l inside'

same_lane : (d i j k l : ℕ) → k < d → l < d → i * d + k ≡ j * d + l → k ≡ l
same_lane d i j k l inside inside' e = sym (mod-mul-add i d k inside) ∙ ap (λ p. p % d) e ∙ mod-mul-add j d l inside'

module _ (d l : ℕ) (inside : l < d) (before : List ℕ) where
  -- One row more of the lane l is written.
  pub row_written : (message bytes : List ℕ) (i b : ℕ) → i < 223 → 223 * d ≤ length message → b ≡ get_or bytes i 0 % 256
      → ((j : ℕ) → j < i → get_or message (j * d + l) 0 ≡ get_or bytes j 0 % 256)
      → (j : ℕ) → j < i + 1 → get_or (set message (i * d + l) b) (j * d + l) 0 ≡ get_or bytes j 0 % 256
  row_written message bytes i b within long is so_far j h = at (cases_eq j i)
    where
      at : (j ≡ i) ⊎ (j ≡ i → ⊥) → get_or (set message (i * d + l) b) (j * d + l) 0 ≡ get_or bytes j 0 % 256
      at (inl same) =
          ap (λ n. get_or (set message (i * d + l) b) (n * d + l) 0) same
          ∙ get_or-set_same message (i * d + l) b 0 (omega (arith, place_in 223 d i l within inside))
          ∙ is ∙ ap (λ n. get_or bytes n 0 % 256) (sym same)
      at (inr other) = get_or-set_other message (i * d + l) (j * d + l) b 0 (λ e. other (same_row d j i l l inside inside e)) ∙ so_far j (omega arith)

  pub others_kept : (message : List ℕ) (i b : ℕ) → OthersKept d l before message → OthersKept d l before (set message (i * d + l) b)
  others_kept message i b kept j k h k_inside other =
      get_or-set_other message (i * d + l) (j * d + k) b 0 (λ e. other (same_lane d j i k l k_inside inside e)) ∙ kept j k h k_inside other
