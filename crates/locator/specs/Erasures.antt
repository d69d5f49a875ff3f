-- Correction with erasures: places that are flagged as unsure, whose symbols count for nothing.
use Rattle.std.specs.Prelude.{◌≡◌, ℕ, ◌+◌, ◌<◌, ◌≤◌, List, [], ◌∷◌, length, slice_set}
use Rattle.field.specs.Field.{Ops}
use Rattle.polynomial.specs.Sums.{Each, Distinct}
use Rattle.polynomial.specs.Words.{distance}
use Rattle.code.specs.Code.{Code, Codeword}

-- The word with the flagged symbols erased: zero stands for each.
unfoldable pub erased : {F : Type 0} → Ops F → List ℕ → List F → List F
erased o [] w = w
erased o (i ∷ flags) w = slice_set (erased o flags w) i o.nought

-- The flagged places are places of a word, and no two are alike.
pub record Flags (c : Code) (flags : List ℕ) : Type 0 where
  pub inside : Each (λ i. i < c.symbols) flags
  pub apart : Distinct (λ i. i) flags

-- The number of places, but for the flagged ones, in which two words differ.
abbrev pub distance_off : {F : Type 0} → Ops F → List ℕ → List F → List F → ℕ
distance_off o flags v w = distance o (erased o flags v) (erased o flags w)

-- The codeword w is near enough to a received word: twice the number of places, but for the flagged ones, in which they differ, and the number of
-- flagged places, are together at most the number of checks.
pub record NearOff {F : Type 0} (o : Ops F) (c : Code) (flags : List ℕ) (received w : List F) : Type 0 where
  pub long : length received ≡ c.symbols
  pub codeword : Codeword o c w
  pub close : distance_off o flags received w + distance_off o flags received w + length flags ≤ c.checks
