-- Sequences that are power sums, and polynomials whose roots are the locators.
use Rattle.std.specs.Prelude.{◌≡◌, ℕ, ◌<◌, List, length}
use Rattle.field.specs.Field.{Ops}
use Rattle.field.specs.Polynomial.{value}
use Rattle.polynomial.specs.Coefficients.{Monic}
use Rattle.polynomial.specs.Sums.{Each, Distinct, psum}

-- The first n places of t are the power sums of values v at locators x, over entries whose locators differ.
pub record SumsOf {F A : Type 0} (o : Ops F) (t : ℕ → F) (n : ℕ) (v x : A → F) (ls : List A) : Type 0 where
  pub apart : Distinct x ls
  pub sums : (k : ℕ) → k < n → t k ≡ psum o v x ls k

-- The polynomial is the locator polynomial of the entries: it has one root for each entry, its locator, and its degree is their number.
pub record Locates {F A : Type 0} (o : Ops F) (x : A → F) (ls : List A) (poly : List F) : Type 0 where
  pub monic : Monic o poly (length ls)
  pub roots : Each (λ a. value o poly (x a) ≡ o.nought) ls
