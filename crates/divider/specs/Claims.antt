-- What the registers of a divider hold, and that they complete a message to a codeword, over any kind of field element.
use Rattle.std.specs.Prelude.{◌≡◌, ℕ, suc, ◌-◌, ◌<◌, List, [], ◌∷◌, ◌++◌, length}
use Rattle.field.specs.Field.{Ops}
use Rattle.polynomial.specs.Coefficients.{coeff, shift}
use Rattle.code.specs.Code.{Code, telemetry, of_symbols, Codeword}
use Rattle.generator.specs.Claims.{Fits, Leaves}
use Rattle.generator.specs.Generator.{generator}
use Rattle.divider.specs.Registers.{taken, cleared, registers, checks}

-- The rule of the registers R_0 to R_last, as many as the code has checks, at a symbol m: with f = m + R_last, R_0 becomes f·G_0, and
-- R_i becomes R_(i-1) + f·G_i.
pub record Steps {F : Type 0} (o : Ops F) (c : Code) : Type 0 where
  pub first : (rs : List F) (m : F) (last : ℕ) → length rs ≡ c.checks → suc last ≡ c.checks
      → coeff o (taken o (generator o c) rs m) 0 ≡ o.product (o.sum m (coeff o rs last)) (coeff o (generator o c) 0)
  pub next : (rs : List F) (m : F) (last i : ℕ) → length rs ≡ c.checks → suc last ≡ c.checks → i < last
      → coeff o (taken o (generator o c) rs m) (suc i) ≡ o.sum (coeff o rs i) (o.product (o.sum m (coeff o rs last)) (coeff o (generator o c) (suc i)))
  pub long : (rs : List F) (m : F) → length rs ≡ c.checks → length (taken o (generator o c) rs m) ≡ c.checks

-- After any symbols, the first of them that of the highest power, the registers are a remainder by the generator.
pub record Divides {F : Type 0} (o : Ops F) (c : Code) : Type 0 where
  -- before any symbol they are zero, and a symbol more is taken by the rule
  pub none : registers o c [] ≡ cleared o c
  pub more : (ms : List F) (m : F) → registers o c (ms ++ m ∷ []) ≡ taken o (generator o c) (registers o c ms) m
  -- there are as many registers as checks
  pub long : (ms : List F) → length (registers o c ms) ≡ c.checks
  -- they are the remainder of x^checks times the polynomial of the symbols
  pub remainder : (ms : List F) → Leaves o c (shift o c.checks (of_symbols ms)) (registers o c ms)
  -- R_i is the coefficient of x^i in it, whichever way the remainder is found
  pub coefficients : (ms r : List F) → Leaves o c (shift o c.checks (of_symbols ms)) r → (i : ℕ) → coeff o (registers o c ms) i ≡ coeff o r i

-- A message followed by R_last to R_0 is a codeword, and followed by any other symbols it is none.
pub record Completes {F : Type 0} (o : Ops F) (c : Code) : Type 0 where
  pub codeword : (ms : List F) → length ms ≡ c.symbols - c.checks → Codeword o c (of_symbols (ms ++ checks o c ms))
  pub only : (ms cs : List F) → length ms ≡ c.symbols - c.checks → Codeword o c (of_symbols (ms ++ cs)) → cs ≡ checks o c ms

-- The rule and the remainder of every code, and the codewords of every code whose numbers fit, the (255,223) code among them.
pub record Divider {F : Type 0} (o : Ops F) : Type 0 where
  pub steps : (c : Code) → Steps o c
  pub divides : (c : Code) → Divides o c
  pub completes : (c : Code) → Fits o c → Completes o c
  pub telemetry_completes : o.order ≡ telemetry.symbols → Completes o telemetry
