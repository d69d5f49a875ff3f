-- What holds of recurrences, locators and corrections, over any kind of field element.
use Rattle.std.specs.Prelude.{◌≡◌, ℕ, suc, ◌+◌, ◌-◌, ◌<◌, ◌≤◌, List, [], ◌∷◌, length, ◌≢◌}
use Rattle.field.specs.Field.{Ops}
use Rattle.field.specs.Polynomial.{value, Vanishes}
use Rattle.polynomial.specs.Coefficients.{Same, plus, scale, shift, times}
use Rattle.polynomial.specs.Sums.{Each, Distinct, psum}
use Rattle.polynomial.specs.Words.{distance}
use Rattle.code.specs.Code.{Code, root}
use Rattle.locator.specs.Applied.{applied, deflated}
use Rattle.locator.specs.Recurrence.{Recurrence}
use Rattle.locator.specs.Located.{SumsOf, Locates}
use Rattle.locator.specs.Correction.{locator, Syndromes, Near, Repaired, root_places}
use Rattle.locator.specs.Erasures.{Flags, distance_off, NearOff}

-- The search for the shortest recurrence: its start, and each turn, from the discrepancy d at place k on. The quotient of d by what the old
-- recurrence missed is told by its product.
pub record Recurrences {F : Type 0} (o : Ops F) : Type 0 where
  pub start : (t : ℕ → F) → Recurrence o t 0 (o.unit ∷ []) 0 [] o.unit
  -- nothing is missed
  pub kept : (t : ℕ → F) (k : ℕ) (poly : List F) (degree : ℕ) (old : List F) (miss : F) → Recurrence o t k poly degree old miss
      → applied o poly t (k - degree) ≡ o.nought
      → Recurrence o t (suc k) poly degree old miss
  -- the recurrence is long enough: it is mended by a multiple of the old one
  pub mended : (t : ℕ → F) (k : ℕ) (poly : List F) (degree : ℕ) (old : List F) (miss : F) → Recurrence o t k poly degree old miss
      → (d : F) → d ≡ applied o poly t (k - degree) → k < degree + degree
      → (quotient : F) → o.product quotient miss ≡ d
      → (after : List F) → Same o after (plus o poly (scale o quotient (shift o (degree + degree - suc k) old)))
      → Recurrence o t (suc k) after degree old miss
  -- the recurrence grows, and is the old one from then on
  pub grown : (t : ℕ → F) (k : ℕ) (poly : List F) (degree : ℕ) (old : List F) (miss : F) → Recurrence o t k poly degree old miss
      → (d : F) → d ≡ applied o poly t (k - degree) → (d ≢ o.nought) → degree + degree ≤ k
      → (quotient : F) → o.product quotient miss ≡ d
      → (after : List F) → Same o after (plus o (shift o (suc k - (degree + degree)) poly) (scale o quotient old))
      → Recurrence o t (suc k) after (suc k - degree) poly d

-- Power sums, and what the shortest recurrence tells of their locators and values.
pub record Locators {F : Type 0} (o : Ops F) : Type 0 where
  -- a polynomial applied to power sums multiplies each value by the polynomial's value at the locator
  pub of_sums : (p : List F) (v x : ℕ → F) (ls : List ℕ) (j : ℕ) → applied o p (psum o v x ls) j ≡ psum o (λ a. o.product (v a) (value o p (x a))) x ls j
  -- of at most half as many values other than zero as places, the recurrence is the locator polynomial
  pub located : (t : ℕ → F) (n : ℕ) (v x : ℕ → F) (ls : List ℕ) → SumsOf o t n v x ls → Each (λ a. v a ≢ o.nought) ls → length ls + length ls ≤ n
      → (poly : List F) (degree : ℕ) (old : List F) (miss : F) → Recurrence o t n poly degree old miss → (degree ≡ length ls) × Locates o x ls poly
  -- a locator polynomial has no other root, and no double one
  pub no_other : (x : ℕ → F) (ls : List ℕ) → Distinct x ls → (poly : List F) → Locates o x ls poly
      → (y : F) → value o poly y ≡ o.nought → Each (λ a. x a ≢ y) ls → ⊥
  pub simple : (x : ℕ → F) (ls : List ℕ) → Distinct x ls → (poly : List F) → Locates o x ls poly
      → (y : F) → value o poly y ≡ o.nought → value o (deflated o y poly) y ≢ o.nought
  -- without the root of one entry, and applied to the power sums, it gives the value of that entry times its own value at the locator
  pub values : (t : ℕ → F) (n : ℕ) (v x : ℕ → F) (ls : List ℕ) → SumsOf o t n v x ls → length ls ≤ n → (poly : List F) → Locates o x ls poly
      → Each (λ a. applied o (deflated o (x a) poly) t 0 ≡ o.product (v a) (value o (deflated o (x a) poly) (x a))) ls

-- What the shortest recurrence of the syndromes tells, where a codeword w is near enough to the received word.
pub record Tells {F : Type 0} (o : Ops F) (c : Code) (received w : List F) (t : ℕ → F) (poly : List F) (degree : ℕ) : Type 0 where
  -- its degree is the number of errors, and within the limit
  pub errors : degree ≡ distance o received w
  pub few : degree + degree ≤ c.checks
  -- it has as many roots among the locators as its degree says, and no double root
  pub count : root_places o c poly c.symbols ≡ degree
  pub simple : (y : F) → value o poly y ≡ o.nought → value o (deflated o y poly) y ≢ o.nought
  -- with the errors taken off, the received word is that codeword
  pub corrected : (after : List F) → Repaired o c t poly c.symbols received after → after ≡ w

-- Correction in a code whose numbers fit: at most one codeword is near enough, and the shortest recurrence of the syndromes tells which.
pub record Corrections {F : Type 0} (o : Ops F) (c : Code) : Type 0 where
  pub one : (received v w : List F) → Near o c received v → Near o c received w → v ≡ w
  pub tells : (received w : List F) → Near o c received w → (t : ℕ → F) → Syndromes o c received t
      → (poly : List F) (degree : ℕ) (old : List F) (miss : F) → Recurrence o t c.checks poly degree old miss
      → Tells o c received w t poly degree
  -- a word with the errors taken off whose syndromes vanish is near enough, where the roots are few enough
  pub accepted : (received after : List F) (t : ℕ → F) (poly : List F) → length received ≡ c.symbols → Repaired o c t poly c.symbols received after
      → root_places o c poly c.symbols + root_places o c poly c.symbols ≤ c.checks → Vanishes o (root o c) c.checks after → Near o c received after

-- What the shortest recurrence of the modified syndromes tells, where a codeword w is near enough to the received word but for the flagged places,
-- s are the syndromes and `all` is the product of the recurrence and the locator polynomial of the flagged places.
pub record TellsOff {F : Type 0} (o : Ops F) (c : Code) (flags : List ℕ) (received w : List F) (s : ℕ → F) (poly : List F) (degree : ℕ) (all : List F) : Type 0 where
  pub errors : degree ≡ distance_off o flags received w
  pub few : degree + degree + length flags ≤ c.checks
  pub count : root_places o c poly c.symbols ≡ degree
  pub simple : (y : F) → value o all y ≡ o.nought → value o (deflated o y all) y ≢ o.nought
  pub corrected : (after : List F) → Repaired o c s all c.symbols received after → after ≡ w

-- Correction with erasures. The modified syndromes t are the locator polynomial of the flagged places applied to the syndromes s, as many as there are
-- checks beyond the number of flags.
pub record Erasures {F : Type 0} (o : Ops F) (c : Code) : Type 0 where
  pub one : (flags : List ℕ) → Flags c flags → (received v w : List F) → NearOff o c flags received v → NearOff o c flags received w → v ≡ w
  pub tells : (flags : List ℕ) → Flags c flags → (received w : List F) → NearOff o c flags received w → (s : ℕ → F) → Syndromes o c received s
      → (flagged : List F) → Locates o (locator o c) flags flagged
      → (t : ℕ → F) → ((k : ℕ) → k < c.checks - length flags → t k ≡ applied o flagged s k)
      → (poly : List F) (degree : ℕ) (old : List F) (miss : F) → Recurrence o t (c.checks - length flags) poly degree old miss
      → (all : List F) → Same o all (times o poly flagged)
      → TellsOff o c flags received w s poly degree all
  pub accepted : (flags : List ℕ) → Flags c flags → (flagged : List F) → Locates o (locator o c) flags flagged
      → (poly all : List F) → Same o all (times o poly flagged)
      → (received after : List F) (s : ℕ → F) → length received ≡ c.symbols → Repaired o c s all c.symbols received after
      → root_places o c poly c.symbols + root_places o c poly c.symbols + length flags ≤ c.checks → Vanishes o (root o c) c.checks after
      → NearOff o c flags received after
