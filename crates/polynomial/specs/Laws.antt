-- The theorems on polynomials, for any kind of field element; every size is left open.
use Rattle.std.specs.Prelude.{◌≡◌, ℕ, ◌+◌, ◌<◌, ◌≤◌, List, length, ◌≢◌}
use Rattle.field.specs.Field.{Ops, power}
use Rattle.field.specs.Polynomial.{Vanishes, Apart}
use Rattle.polynomial.specs.Coefficients.{coeff, Same, Nought, plus, scale, times, crossed, shift, Degree, Remainder}
use Rattle.polynomial.specs.Sums.{Each, Distinct, psum}
use Rattle.polynomial.specs.Words.{distance, weight}

-- The operations coefficient by coefficient; that of a product is the sum of all p_i·q_j with i + j = n.
pub record Coefficients {F : Type 0} (o : Ops F) : Type 0 where
  pub of_plus : (p q : List F) (i : ℕ) → coeff o (plus o p q) i ≡ o.sum (coeff o p i) (coeff o q i)
  pub of_scale : (c : F) (p : List F) (i : ℕ) → coeff o (scale o c p) i ≡ o.product c (coeff o p i)
  pub of_times : (p q : List F) (n : ℕ) → coeff o (times o p q) n ≡ crossed o p q 0 n
  pub of_shift : (n : ℕ) (p : List F) (i : ℕ) → coeff o (shift o n p) (n + i) ≡ coeff o p i
  pub below_shift : (n : ℕ) (p : List F) (i : ℕ) → i < n → coeff o (shift o n p) i ≡ o.nought

-- By a polynomial of degree m, every polynomial has a remainder of m coefficients, and one only.
pub record OneRemainder {F : Type 0} (o : Ops F) : Type 0 where
  pub exists : (g : List F) (m : ℕ) → Degree o g m → (p : List F) → (r : List F) × (length r ≡ m) × Remainder o g m p r
  pub unique : (g : List F) (m : ℕ) (p r r' : List F) → Remainder o g m p r → Remainder o g m p r' → Same o r r'
  pub exactly : (g : List F) (m : ℕ) (p r r' : List F) → Remainder o g m p r → Remainder o g m p r' → length r ≡ length r' → r ≡ r'

-- The remainder of a sum is the sum of the remainders, and of a multiple the multiple.
pub record LinearRemainder {F : Type 0} (o : Ops F) : Type 0 where
  pub of_sum : (g : List F) (m : ℕ) (p q r s : List F) → Remainder o g m p r → Remainder o g m q s → Remainder o g m (plus o p q) (plus o r s)
  pub of_multiple : (a : F) (g : List F) (m : ℕ) (p r : List F) → Remainder o g m p r → Remainder o g m (scale o a p) (scale o a r)

-- A polynomial that is zero at as many different elements as it has coefficients is zero.
abbrev pub FewRoots : {F : Type 0} → Ops F → Type 0
FewRoots {F} o = (n : ℕ) (f : ℕ → F) → Apart f n → (p : List F) → length p ≤ n → Vanishes o f n p → Nought o p

-- Where m power sums in a row vanish, from exponent 0 on, over at most m places whose locators all differ, every value is zero.
abbrev pub PowerSums : {F : Type 0} → Ops F → Type 0
PowerSums {F} o =
    (m : ℕ) (v x : ℕ → F) (ls : List ℕ) → length ls ≤ m → Distinct x ls → ((k : ℕ) → k < m → psum o v x ls k ≡ o.nought)
    → Each (λ l. v l ≡ o.nought) ls

-- Words that vanish at c powers of a base in a row, from the exponent s on, where the powers of the base below their length differ:
-- two of one length that lie at most c apart are the same, and one with at most c symbols other than zero is zero.
pub record Distance {F : Type 0} (o : Ops F) : Type 0 where
  pub near : (base : F) (s c : ℕ) (v w : List F) → (base ≢ o.nought) → length v ≡ length w → Apart (power o base) (length v)
      → Vanishes o (λ k. power o base (s + k)) c v → Vanishes o (λ k. power o base (s + k)) c w → distance o v w ≤ c → v ≡ w
  pub light : (base : F) (s c : ℕ) (w : List F) → (base ≢ o.nought) → Apart (power o base) (length w)
      → Vanishes o (λ k. power o base (s + k)) c w → weight o w ≤ c → Nought o w
