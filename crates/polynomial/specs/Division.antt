-- What the degree of a polynomial is, and what division in place leaves.
use Rattle.std.specs.Prelude.{◌≡◌, ℕ, List, length, Some, None, Option}
use Rattle.field.specs.Field.{Ops}
use Rattle.polynomial.specs.Coefficients.{Nought, Degree, Remainder}

-- The degree, none of the zero polynomial.
abbrev pub HasDegree : {F : Type 0} → Ops F → List F → Option ℕ → Type 0
HasDegree o p None = Nought o p
HasDegree o p (Some m) = Degree o p m

-- What stands after a division by g in place of `before`: its remainder, in as many coefficients, and no other list of that length is a remainder.
pub record Reduced {F : Type 0} (o : Ops F) (before g after : List F) : Type 0 where
  pub long : length after ≡ length before
  pub degree : ℕ
  pub remainder : Remainder o g degree before after
  pub only : (m : ℕ) (r : List F) → length r ≡ length before → Remainder o g m before r → r ≡ after

-- What division of `before` by g answers and leaves: none, where g is zero, and all as it was; else the remainder.
abbrev pub Divided : {F U : Type 0} → Ops F → List F → List F → List F → Option U → Type 0
Divided o before g after None = Nought o g × (after ≡ before)
Divided o before g after (Some u) = Reduced o before g after
