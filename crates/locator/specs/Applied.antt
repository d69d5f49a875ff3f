-- A polynomial applied to a sequence, and a polynomial divided by a factor x + r.
use Rattle.std.specs.Prelude.{ℕ, suc, List, [], ◌∷◌, drop}
use Rattle.field.specs.Field.{Ops}
use Rattle.field.specs.Polynomial.{value}

-- The polynomial p applied to the sequence t from place j on: the sum of p_i·t(j + i).
unfoldable pub applied : {F : Type 0} → Ops F → List F → (ℕ → F) → ℕ → F
applied o [] t j = o.nought
applied o (a ∷ p) t j = o.sum (o.product a (t j)) (applied o p t (suc j))

-- The values at r of p, of p without its lowest coefficient, and so on: what synthetic division by x + r makes of the coefficients of p.
unfoldable pub tails : {F : Type 0} → Ops F → F → List F → List F
tails o r [] = []
tails o r (a ∷ p) = value o (a ∷ p) r ∷ tails o r p

-- The quotient of p by x + r, which leaves p(r).
unfoldable pub deflated : {F : Type 0} → Ops F → F → List F → List F
deflated o r p = drop 1 (tails o r p)
