-- The rule of the table of products.
use Rattle.std.specs.Prelude.{ℕ, Bool, List, [], slice_index, slice_index_or}
use Rattle.table.specs.Computed.{both, all_below, tabulates}
use Rattle.power_form.specs.Arithmetic.{product}
use Rattle.dividers.specs.Coefficients.{coefficient_byte}

-- Row 1 has the 32 coefficients below the highest, and row f has their products with f.
unfoldable pub rows_right : List (List ℕ) → Bool
rows_right rows =
    both (tabulates 32 coefficient_byte (slice_index_or rows 1 []))
    (all_below 256 (λ f. tabulates 32 (λ k. product f (slice_index (slice_index_or rows 1 []) k)) (slice_index_or rows f [])))
