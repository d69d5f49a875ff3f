-- Correction of a received word: its syndromes, the codeword near it, and what a locator polynomial makes of it.
use Rattle.std.specs.Prelude.{◌≡◌, ℕ, zero, suc, ◌+◌, ◌<◌, ◌≤◌, Bool, cond, List, length, ◌≢◌}
use Rattle.field.specs.Field.{Ops, power}
use Rattle.field.specs.Polynomial.{value}
use Rattle.polynomial.specs.Coefficients.{coeff}
use Rattle.polynomial.specs.Words.{distance}
use Rattle.code.specs.Code.{Code, gamma_power, root, Codeword}
use Rattle.locator.specs.Applied.{applied, deflated}

-- The locator of place i.
abbrev pub locator : {F : Type 0} → Ops F → Code → ℕ → F
locator o c i = gamma_power o c i

-- The syndrome of a word with the number k: its value at that root.
abbrev pub syndrome : {F : Type 0} → Ops F → Code → List F → ℕ → F
syndrome o c w k = value o w (root o c k)

-- The sequence t begins with the syndromes of a word, as many as there are checks.
abbrev pub Syndromes : {F : Type 0} → Ops F → Code → List F → (ℕ → F) → Type 0
Syndromes o c w t = (k : ℕ) → k < c.checks → t k ≡ syndrome o c w k

-- The codeword w is near enough to a received word: twice the number of places in which they differ is at most the number of checks.
pub record Near {F : Type 0} (o : Ops F) (c : Code) (received w : List F) : Type 0 where
  pub long : length received ≡ c.symbols
  pub codeword : Codeword o c w
  pub close : distance o received w + distance o received w ≤ c.checks

-- The error e at place i, told by a locator polynomial and the syndromes t. It is zero where the locator X of the place is no root. Where it is
-- one, e·X^s times the value at X of the polynomial without that root is that polynomial applied to the syndromes; s is the exponent of the first root.
pub record ErrorAt {F : Type 0} (o : Ops F) (c : Code) (t : ℕ → F) (poly : List F) (i : ℕ) (e : F) : Type 0 where
  pub none : (value o poly (locator o c i) ≢ o.nought) → e ≡ o.nought
  pub some : value o poly (locator o c i) ≡ o.nought
      → o.product (o.product e (power o (locator o c i) c.first)) (value o (deflated o (locator o c i) poly) (locator o c i))
      ≡ applied o (deflated o (locator o c i) poly) t 0

-- The word `after` is the received one with the error taken off at each of the first n places.
pub record Repaired {F : Type 0} (o : Ops F) (c : Code) (t : ℕ → F) (poly : List F) (n : ℕ) (received after : List F) : Type 0 where
  pub long : length after ≡ length received
  pub each : (i : ℕ) → i < n → ErrorAt o c t poly i (o.sum (coeff o received i) (coeff o after i))
  pub rest : (i : ℕ) → n ≤ i → coeff o after i ≡ coeff o received i

-- How many of the numbers below n pass.
unfoldable pub counted : (ℕ → Bool) → ℕ → ℕ
counted passes zero = 0
counted passes (suc n) = cond (passes n) (suc (counted passes n)) (counted passes n)

-- At how many of the first n places the locator is a root.
abbrev pub root_places : {F : Type 0} → Ops F → Code → List F → ℕ → ℕ
root_places o c poly n = counted (λ i. o.same (value o poly (locator o c i)) o.nought) n
