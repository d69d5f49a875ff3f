-- Interleaving: the symbols of d lanes are sent in turn, one of each, the highest power first.
use Rattle.std.specs.Prelude.{◌≡◌, ℕ, ◌+◌, ◌-◌, ◌*◌, ◌/◌, ◌%◌, ◌<◌, cond, nat_lt, List, map, length, Some, None, Option, slice_index, slice_index_or}
use Rattle.std.specs.List.{range_with_len}
use Rattle.code.specs.Code.{telemetry, of_symbols}
use Rattle.dual_form.specs.DualForm.{symbol, dual_ops}
use Rattle.dual_form.specs.declared.element.Dual.{Dual}
use Rattle.block.specs.Depths.{block_length}

-- The lane l of n·d bytes: the bytes i·d + l for i from 0 to n - 1, in the order in which they are sent.
unfoldable pub lane : ℕ → ℕ → List ℕ → ℕ → List ℕ
lane n d bytes l = map (λ i. slice_index bytes (i * d + l)) (range_with_len 0 n)

-- The lane l of a block of depth d, if it has so many lanes.
abbrev pub lane_of : ℕ → List ℕ → ℕ → Option (List ℕ)
lane_of d block l = cond (nat_lt l d) (Some (lane telemetry.symbols d block l)) None

-- The lane l of a block as a polynomial, C_0 first.
unfoldable pub word : ℕ → List ℕ → ℕ → List Dual
word d block l = of_symbols (map symbol (lane telemetry.symbols d block l))

-- Byte m of a block of depth d belongs to the lane m mod d, and is its symbol with the index 254 - m / d.
abbrev pub Interleaved : Type 0
Interleaved =
    (d : ℕ) (block : List ℕ) (m : ℕ) → 0 < d → length block ≡ block_length d → m < block_length d
    → slice_index_or (word d block (m % d)) (254 - m / d) dual_ops.nought ≡ symbol (slice_index block m)
