-- A lane of registers in any form: zeros, and a symbol taken as the registers move up one place and products are added.
use Rattle.std.specs.Prelude.{◌≡◌, ℕ, suc, ◌-◌, ◌<◌, ◌≤◌, ◌⊎◌, List, ◌∷◌, map, length, replicate, bit_xor, slice_index}
use Rattle.std.proofs.Common.{sym, ap, ap₂, ◌∙◌, inl, inr, arith}
use Rattle.std.proofs.lemmas.List.{get_or-map, length-map}
use Rattle.std.proofs.lemmas.Bool.{cases_lt}
use Rattle.field.proofs.Ring.{Lawful}
use Rattle.polynomial.specs.Coefficients.{coeff}
use Rattle.polynomial.proofs.Entries.{coeff_past, same_list}
use Rattle.dual_form.specs.DualForm.{symbol, dual_ops}
use Rattle.dual_form.specs.declared.element.Dual.{Dual}
use Rattle.dual_form.specs.DualLaws.{dual_laws}
use Rattle.code.specs.Code.{telemetry, root}
use Rattle.generator.specs.Generator.{generator}
use Rattle.generator.proofs.Products.{length_product}
use Rattle.divider.specs.Registers.{taken}
use Rattle.divider.proofs.Registers.{coeff_moved, length_moved}
use Rattle.bank.specs.Lanes.{zeros, stepped}
use Rattle.dividers.specs.Forms.{moved_up}

abbrev dual_field : Lawful Dual
dual_field = record { ops = dual_ops; laws = dual_laws }

-- The coefficient G_k.
abbrev coefficient : ℕ → Dual
coefficient k = coeff dual_ops (generator dual_ops telemetry) k

-- There is one coefficient more than registers.
coefficients_long : length (generator dual_ops telemetry) ≡ 33
coefficients_long = length_product dual_field (root dual_ops telemetry) 32

-- As many registers as before.
pub moved_wide : (rs : List Dual) (f : Dual) → length rs ≡ 32 → length (moved_up rs f) ≡ 32
unfolding moved_up
moved_wide rs f wide = length_moved dual_ops f dual_ops.nought rs (generator dual_ops telemetry) (omega (arith, wide, coefficients_long)) ∙ wide

-- Bytes that mean symbols: the sums mean their sums, and 0 means zero.
module _ (meant : ℕ → Dual) (sums : (x y : ℕ) → meant (bit_xor x y) ≡ dual_ops.sum (meant x) (meant y)) (nothing : meant 0 ≡ dual_ops.nought) where
  pub coeff_meant : (bytes : List ℕ) (k : ℕ) → k < length bytes → coeff dual_ops (map meant bytes) k ≡ meant (slice_index bytes k)
  unfolding coeff
  coeff_meant bytes k h = get_or-map meant bytes k 0 dual_ops.nought h

  pub meant_zeros : map meant (replicate 32 0) ≡ zeros
  unfolding zeros
  meant_zeros = ap (replicate 32) nothing

  -- Zero below the first register.
  below : (bytes : List ℕ) (k : ℕ) → k < suc (length bytes) → meant (slice_index (0 ∷ bytes) k) ≡ coeff dual_ops (dual_ops.nought ∷ map meant bytes) k
  unfolding coeff
  below bytes k h = sym (ap (λ z. coeff dual_ops (z ∷ map meant bytes) k) (sym nothing) ∙ coeff_meant (0 ∷ bytes) k h)

  -- A row of products, added to the registers as they move up.
  module _ (before row after : List ℕ) (f : Dual) (wide : length before ≡ 32) (long : length after ≡ 32)
      (each : (k : ℕ) → k < 32 → slice_index after k ≡ bit_xor (slice_index (0 ∷ before) k) (slice_index row k))
      (products : (k : ℕ) → k < 32 → meant (slice_index row k) ≡ dual_ops.product f (coefficient k)) where
    abbrev was : List Dual
    was = map meant before

    was_wide : length was ≡ 32
    was_wide = length-map before meant ∙ wide

    after_wide : length (map meant after) ≡ 32
    after_wide = length-map after meant ∙ long

    target_wide : length (moved_up was f) ≡ 32
    target_wide = moved_wide was f was_wide

    place : (i : ℕ) → coeff dual_ops (map meant after) i ≡ coeff dual_ops (moved_up was f) i
    unfolding moved_up coeff
    place i = go (cases_lt i 32)
      where
        go : (i < 32) ⊎ (32 ≤ i) → coeff dual_ops (map meant after) i ≡ coeff dual_ops (moved_up was f) i
        go (inl h) =
            coeff_meant after i (omega (arith, long)) ∙ ap meant (each i h) ∙ sums (slice_index (0 ∷ before) i) (slice_index row i)
            ∙ ap₂ dual_ops.sum (below before i (omega (arith, wide))) (products i h)
            ∙ sym (coeff_moved dual_field f dual_ops.nought was (generator dual_ops telemetry) i (omega (arith, was_wide)) (omega (arith, was_wide, coefficients_long)))
        go (inr h) =
            coeff_past dual_ops (map meant after) i (omega (arith, after_wide))
            ∙ sym (coeff_past dual_ops (moved_up was f) i (omega (arith, target_wide)))

    pub moves_up : map meant after ≡ moved_up (map meant before) f
    moves_up = same_list dual_ops (map meant after) (moved_up was f) (after_wide ∙ sym target_wide) place

  pub stay_wide : (before after : List ℕ) (f : Dual) → length before ≡ 32 → map meant after ≡ moved_up (map meant before) f → length after ≡ 32
  stay_wide before after f wide e = sym (length-map after meant) ∙ ap length e ∙ moved_wide (map meant before) f (length-map before meant ∙ wide)

  -- Products of the feedback, the sum of a symbol and the last register, take that symbol.
  pub takes : (bytes : List ℕ) (byte b : ℕ) → length bytes ≡ 32 → meant b ≡ symbol byte
      → moved_up (map meant bytes) (meant (bit_xor b (slice_index bytes 31))) ≡ stepped (map meant bytes) byte
  unfolding moved_up stepped taken
  takes bytes byte b wide is =
      let was = map meant bytes in
      let last : 31 ≡ length was - 1 = omega (arith, length-map bytes meant, wide) in
      ap (λ f. moved_up was f) (sums b (slice_index bytes 31)
      ∙ ap₂ dual_ops.sum is (sym (coeff_meant bytes 31 (omega (arith, wide))) ∙ ap (coeff dual_ops was) last))
