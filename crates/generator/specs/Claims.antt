-- What holds of a code and its generator, over any kind of field element.
use Rattle.std.specs.Prelude.{◌≡◌, ℕ, ◌*◌, ◌%◌, ◌<◌, ◌≤◌, List, [], ◌∷◌, ◌++◌, length, replicate}
use Rattle.field.specs.Field.{Ops}
use Rattle.polynomial.specs.Coefficients.{plus, shift, Monic, Remainder}
use Rattle.polynomial.specs.Words.{distance, weight}
use Rattle.code.specs.Code.{Code, telemetry, Codeword}
use Rattle.generator.specs.Generator.{generator}

-- The numbers of a code fit a kind of field element: a codeword has as many symbols as α has powers, the exponent of γ has an inverse
-- modulo that number, and there are roots, at most as many as symbols.
pub record Fits {F : Type 0} (o : Ops F) (c : Code) : Type 0 where
  pub full : o.order ≡ c.symbols
  pub inverse : ℕ
  pub inverts : (c.step * inverse) % c.symbols ≡ 1
  pub some : 0 < c.checks
  pub few : c.checks ≤ c.symbols

-- The polynomial p leaves the remainder r by the generator.
abbrev pub Leaves : {F : Type 0} → Ops F → Code → List F → List F → Type 0
Leaves o c p r = Remainder o (generator o c) c.checks p r

-- What the generator of a code is to its codewords.
pub record Generates {F : Type 0} (o : Ops F) (c : Code) : Type 0 where
  -- its highest power, with the coefficient one, is the number of checks
  pub monic : Monic o (generator o c) c.checks
  -- a word of the right length is a codeword exactly when it leaves zero
  pub divides : (w : List F) → Codeword o c w → Leaves o c w []
  pub divided : (w : List F) → length w ≡ c.symbols → Leaves o c w [] → Codeword o c w
  -- a sum leaves the sum of the remainders
  pub sums : (p q r s : List F) → Leaves o c p r → Leaves o c q s → Leaves o c (plus o p q) (plus o r s)
  -- x to the number of symbols leaves one
  pub turn : Leaves o c (shift o c.symbols (o.unit ∷ [])) (o.unit ∷ [])
  -- a codeword whose last symbol is moved to the front is a codeword
  pub cyclic : (front : List F) (top : F) → Codeword o c (front ++ top ∷ []) → Codeword o c (top ∷ front)

-- How far the codewords of a code lie apart: further than it has checks.
pub record Spreads {F : Type 0} (o : Ops F) (c : Code) : Type 0 where
  -- a codeword with at most as many symbols other than zero as there are checks is zero
  pub light : (w : List F) → Codeword o c w → weight o w ≤ c.checks → w ≡ replicate c.symbols o.nought
  -- two codewords that differ in at most as many places as there are checks are the same
  pub near : (v w : List F) → Codeword o c v → Codeword o c w → distance o v w ≤ c.checks → v ≡ w

-- All of this holds of every code whose numbers fit, and those of the (255,223) code fit every kind in which α has 255 powers.
pub record Generators {F : Type 0} (o : Ops F) : Type 0 where
  pub generates : (c : Code) → Fits o c → Generates o c
  pub spreads : (c : Code) → Fits o c → Spreads o c
  pub telemetry_fits : o.order ≡ telemetry.symbols → Fits o telemetry
  pub telemetry_generates : o.order ≡ telemetry.symbols → Generates o telemetry
  pub telemetry_spreads : o.order ≡ telemetry.symbols → Spreads o telemetry
