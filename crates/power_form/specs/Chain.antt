-- The rule of the table of powers.
use Rattle.std.specs.Prelude.{ℕ, Bool, true, List, [], ◌∷◌, ◌==◌}
use Rattle.table.specs.Computed.{both}
use Rattle.power_form.specs.Arithmetic.{times_alpha}

-- The first byte is p, and each is α times the one before.
unfoldable pub chain : ℕ → List ℕ → Bool
chain p [] = true
chain p (x ∷ xs) = both (x == p) (chain (times_alpha p) xs)
