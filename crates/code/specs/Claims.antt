-- What holds of the codewords of the (255,223) code.
use Rattle.std.specs.Prelude.{◌≡◌, List, replicate}
use Rattle.field.specs.Field.{Ops}
use Rattle.polynomial.specs.Coefficients.{plus}
use Rattle.code.specs.Code.{telemetry, Codeword}

pub record Codewords {F : Type 0} (o : Ops F) : Type 0 where
  -- where α has as many powers as a codeword has symbols, any symbol repeated is a codeword
  pub equal_symbols : o.order ≡ telemetry.symbols → (a : F) → Codeword o telemetry (replicate telemetry.symbols a)
  -- two codewords added symbol by symbol are a codeword
  pub sums : (v w : List F) → Codeword o telemetry v → Codeword o telemetry w → Codeword o telemetry (plus o v w)
