-- A bank of one lane.
use Rattle.std.specs.Prelude.{◌≡◌, ℕ, zero, suc, ◌<◌, List, [], ◌∷◌, length, slice_index_or}
use Rattle.std.proofs.Common.{arith}
use Rattle.dual_form.specs.declared.element.Dual.{Dual}
use Rattle.bank.specs.Lanes.{Shaped}

module _ (x : List Dual) where
  pub one_shaped : length x ≡ 32 → Shaped (x ∷ [])
  one_shaped long = record { some = omega arith; few = omega arith; wide = wide }
    where
      wide : (k : ℕ) → k < length (x ∷ []) → length (slice_index_or (x ∷ []) k []) ≡ 32
      wide zero h = long
      wide (suc k) h = absurd (let z : suc k < 1 = h in omega arith)
