-- The shortest recurrence of a sequence: the polynomial of least degree that, applied to it, gives zeros.
use Rattle.std.specs.Prelude.{◌≡◌, ℕ, suc, ◌+◌, ◌<◌, ◌≤◌, List}
use Rattle.field.specs.Field.{Ops}
use Rattle.polynomial.specs.Coefficients.{coeff, Monic}
use Rattle.locator.specs.Applied.{applied}

-- The polynomial, of degree m, gives zeros wherever it reads the first k places of t alone.
abbrev pub Holds : {F : Type 0} → Ops F → (ℕ → F) → ℕ → List F → ℕ → Type 0
Holds o t k p m = (j : ℕ) → j + m < k → applied o p t j ≡ o.nought

-- The search for it after k places of t: `poly` is the recurrence. `old`, the one from before it last grew, gives zeros too at the places below
-- degree - 1, and `miss` at that place. Zeros on top of the two lists do not count.
pub record Recurrence {F : Type 0} (o : Ops F) (t : ℕ → F) (k : ℕ) (poly : List F) (degree : ℕ) (old : List F) (miss : F) : Type 0 where
  pub monic : Monic o poly degree
  pub within : degree ≤ k
  pub holds : Holds o t k poly degree
  -- no recurrence of the first k places is shorter
  pub least : (q : List F) (m : ℕ) → Monic o q m → Holds o t k q m → degree ≤ m
  pub old_short : (i : ℕ) → k < i + degree → coeff o old i ≡ o.nought
  pub old_holds : (j : ℕ) → suc j < degree → applied o old t j ≡ o.nought
  pub old_misses : (j : ℕ) → suc j ≡ degree → applied o old t j ≡ miss
  pub missed : miss ≡ o.nought → ⊥
