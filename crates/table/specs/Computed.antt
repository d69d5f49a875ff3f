-- Tests over all numbers below a bound, and tables that list a function's values.
use Rattle.std.specs.Prelude.{Bool, true, false, List, ℕ, zero, suc, eqb, get_or}

abbrev pub both : Bool → Bool → Bool
both true b = b
both false b = false

-- The test passes at every number below n.
abbrev pub all_below : ℕ → (ℕ → Bool) → Bool
all_below zero passes = true
all_below (suc n) passes = both (passes n) (all_below n passes)

-- At each of the first n places stands the value of f there.
unfoldable pub tabulates : ℕ → (ℕ → ℕ) → List ℕ → Bool
tabulates n f xs = all_below n (λ k. eqb (get_or xs k 0) (f k))
