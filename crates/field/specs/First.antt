-- The first number that passes a test.
use Rattle.std.specs.Prelude.{ℕ, zero, suc, Bool, cond, Some, None, Option}

-- The first of the k numbers n, n + 1 and so on that passes.
unfoldable pub first_of : (ℕ → Bool) → ℕ → ℕ → Option ℕ
first_of passes zero n = None
first_of passes (suc k) n = cond (passes n) (Some n) (first_of passes k (suc n))
