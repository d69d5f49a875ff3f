-- The generator of a code: the product of x + r for every root r, over any kind of field element.
use Rattle.std.specs.Prelude.{◌≡◌, ℕ, zero, suc, ◌<◌, List, [], ◌∷◌, map, length}
use Rattle.field.specs.Field.{Ops, alpha_power}
use Rattle.polynomial.specs.Coefficients.{coeff, times}
use Rattle.code.specs.Code.{Code, root}

-- The product of x + f k for every k below n.
unfoldable pub product_of : {F : Type 0} → Ops F → (ℕ → F) → ℕ → List F
product_of o f zero = o.unit ∷ []
product_of o f (suc n) = times o (f n ∷ o.unit ∷ []) (product_of o f n)

-- The generator of a code, lowest power first.
abbrev pub generator : {F : Type 0} → Ops F → Code → List F
generator o c = product_of o (root o c) c.checks

-- What stands in place of `before` once it is multiplied by x + a, in as many coefficients: each is a times itself and the one below it.
pub record Multiplied {F : Type 0} (o : Ops F) (a : F) (before after : List F) : Type 0 where
  pub long : length after ≡ length before
  pub each : (i : ℕ) → i < length before → coeff o after i ≡ o.sum (coeff o (o.nought ∷ before) i) (o.product a (coeff o before i))

-- The exponents of the coefficients G_0 to G_32 of the (255,223) code's generator, each of which is a power of α.
abbrev pub exponents : List ℕ
exponents =
    0 ∷ 249 ∷ 59 ∷ 66 ∷ 4 ∷ 43 ∷ 126 ∷ 251 ∷ 97 ∷ 30 ∷ 3 ∷ 213 ∷ 50 ∷ 66 ∷ 170 ∷ 5 ∷ 24 ∷ 5 ∷ 170 ∷ 66 ∷ 50 ∷ 213 ∷ 3 ∷ 30 ∷ 97 ∷ 251 ∷ 126 ∷ 43 ∷ 4 ∷ 66 ∷ 59 ∷ 249 ∷ 0 ∷ []

-- The coefficients with these exponents.
unfoldable pub listed : {F : Type 0} → Ops F → List F
listed o = map (alpha_power o) exponents
