-- What correcting a word answers and leaves, and what the steps of it do.
use Rattle.std.specs.Prelude.{◌≡◌, ℕ, ◌<◌, ◌⊎◌, List, length, Some, None, Ok, Err, Option, Result}
use Rattle.field.specs.Field.{Ops, power}
use Rattle.field.specs.Polynomial.{value, Vanishes}
use Rattle.polynomial.specs.Coefficients.{coeff}
use Rattle.polynomial.specs.Words.{distance}
use Rattle.code.specs.Code.{Code, telemetry, root}
use Rattle.locator.specs.Applied.{applied, deflated}
use Rattle.locator.specs.Correction.{locator, Syndromes, Near, ErrorAt, Repaired}

-- No codeword is near enough to a word.
abbrev pub Far : {F : Type 0} → Ops F → Code → List F → Type 0
Far {F} o c word = (w : List F) → Near o c word w → ⊥

-- The word stands corrected in n symbols: it is the codeword near enough, which differs in as many.
pub record CorrectedIn {F : Type 0} (o : Ops F) (c : Code) (before after : List F) (n : ℕ) : Type 0 where
  pub near : Near o c before after
  pub count : n ≡ distance o before after

-- What correcting `before` answers and leaves: the near codeword, and in how many symbols it differs; or a refusal, the word as it was, and no near codeword.
abbrev pub Corrected : {F E : Type 0} → Ops F → Code → List F → List F → Result ℕ E → Type 0
Corrected o c before after (Ok n) = CorrectedIn o c before after n
Corrected o c before after (Err e) = (after ≡ before) × Far o c before

-- The same where the word need not be left as it was.
abbrev pub Tried : {F : Type 0} → Ops F → Code → List F → List F → Option ℕ → Type 0
Tried o c before after (Some n) = CorrectedIn o c before after n
Tried o c before after None = Far o c before

-- At most one codeword is near enough to a word of the (255,223) code.
abbrev pub OneCodeword : {F : Type 0} → Ops F → Type 0
OneCodeword {F} o = o.order ≡ telemetry.symbols → (received v w : List F) → Near o telemetry received v → Near o telemetry received w → v ≡ w

-- The quotient of a polynomial by x + r, with the remainder left out: its value at r, and itself applied to a sequence.
pub record DividedBy {F : Type 0} (o : Ops F) (poly : List F) (r : F) (t : ℕ → F) (value_there applied_there : F) : Type 0 where
  pub value_is : value_there ≡ value o (deflated o r poly) r
  pub applied_is : applied_there ≡ applied o (deflated o r poly) t 0

-- The error at a root r: none where the quotient by x + r vanishes there too; else e·scale times the value of the quotient is the quotient applied to t.
abbrev pub Error : {F : Type 0} → Ops F → List F → F → F → (ℕ → F) → Option F → Type 0
Error o poly r scale t None = o.product (value o (deflated o r poly) r) scale ≡ o.nought
Error o poly r scale t (Some e) = o.product (o.product e scale) (value o (deflated o r poly) r) ≡ applied o (deflated o r poly) t 0

-- The multiple of the powers of x by y is added to a sequence of syndromes.
abbrev pub AddedPowers : {F : Type 0} → Ops F → F → F → List F → List F → Type 0
AddedPowers o y x before after = (k : ℕ) → k < length before → coeff o after k ≡ o.sum (coeff o before k) (o.product y (power o x k))

-- The locator X of some place is a root, and the quotient by x + X times X to the exponent of the first root vanishes there.
pub record DoubleRoot {F : Type 0} (o : Ops F) (c : Code) (poly : List F) : Type 0 where
  pub i : ℕ
  pub once : value o poly (locator o c i) ≡ o.nought
  pub again : o.product (value o (deflated o (locator o c i) poly) (locator o c i)) (power o (locator o c i) c.first) ≡ o.nought

-- What the search tells at place i: the error there, which is taken off the running syndromes; or none, where the polynomial has a double root.
abbrev pub Told : {F : Type 0} → Ops F → Code → List F → (ℕ → F) → ℕ → List F → List F → Option F → Type 0
Told o c poly t i left left_after (Some e) =
    ErrorAt o c t poly i e
    × ((k : ℕ) → k < c.checks → coeff o left_after k ≡ o.sum (coeff o left k) (o.product (o.product e (power o (locator o c i) c.first)) (power o (locator o c i) k)))
Told o c poly t i left left_after None = DoubleRoot o c poly

-- After the errors are taken off: the word vanishes at the roots, and the degree is answered; or there is a double root, or the word does not vanish.
abbrev pub Removed : {F : Type 0} → Ops F → Code → List F → ℕ → (ℕ → F) → List F → List F → Option ℕ → Type 0
Removed o c poly degree t before after (Some n) =
    (n ≡ degree) × Repaired o c t poly c.symbols before after × (Syndromes o c before t → Vanishes o (root o c) c.checks after)
Removed o c poly degree t before after None =
    DoubleRoot o c poly ⊎ (Repaired o c t poly c.symbols before after × (Syndromes o c before t → Vanishes o (root o c) c.checks after → ⊥))
