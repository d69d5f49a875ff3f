-- Polynomials as lists of coefficients, lowest power first: their sums and products, their degrees and remainders. Zeros on top do not count.
use Rattle.std.specs.Prelude.{◌≡◌, ℕ, zero, suc, ◌<◌, ◌≤◌, List, [], ◌∷◌, slice_index_or}
use Rattle.field.specs.Field.{Ops}

-- The coefficient of x^i.
unfoldable pub coeff : {F : Type 0} → Ops F → List F → ℕ → F
coeff o p i = slice_index_or p i o.nought

-- The same polynomial: each coefficient is the same.
abbrev pub Same : {F : Type 0} → Ops F → List F → List F → Type 0
Same o p q = (i : ℕ) → coeff o p i ≡ coeff o q i

-- The zero polynomial: every coefficient is zero.
abbrev pub Nought : {F : Type 0} → Ops F → List F → Type 0
Nought o p = (i : ℕ) → coeff o p i ≡ o.nought

-- The sum p + q.
unfoldable pub plus : {F : Type 0} → Ops F → List F → List F → List F
plus o [] q = q
plus o (a ∷ p) [] = a ∷ p
plus o (a ∷ p) (b ∷ q) = o.sum a b ∷ plus o p q

-- The multiple c·p.
unfoldable pub scale : {F : Type 0} → Ops F → F → List F → List F
scale o c [] = []
scale o c (a ∷ p) = o.product c a ∷ scale o c p

-- The product: a + x·p times q is a·q + x·(p·q).
unfoldable pub times : {F : Type 0} → Ops F → List F → List F → List F
times o [] q = []
times o (a ∷ p) q = plus o (scale o a q) (o.nought ∷ times o p q)

-- The sum of p_i·q_j, p_(i+1)·q_(j-1) and so on, until the power of q is 0.
unfoldable pub crossed : {F : Type 0} → Ops F → List F → List F → ℕ → ℕ → F
crossed o p q i zero = o.product (coeff o p i) (coeff o q 0)
crossed o p q i (suc j) = o.sum (o.product (coeff o p i) (coeff o q (suc j))) (crossed o p q (suc i) j)

-- The polynomial x^n·p.
unfoldable pub shift : {F : Type 0} → Ops F → ℕ → List F → List F
shift o zero p = p
shift o (suc n) p = o.nought ∷ shift o n p

-- The highest power in g is x^m.
pub record Degree {F : Type 0} (o : Ops F) (g : List F) (m : ℕ) : Type 0 where
  pub top : coeff o g m ≡ o.nought → ⊥
  pub above : (i : ℕ) → m < i → coeff o g i ≡ o.nought

-- The highest power in g is x^m, and its coefficient is one.
pub record Monic {F : Type 0} (o : Ops F) (g : List F) (m : ℕ) : Type 0 where
  pub top : coeff o g m ≡ o.unit
  pub above : (i : ℕ) → m < i → coeff o g i ≡ o.nought

-- r is the remainder of p by g, a polynomial of degree m: p = quotient·g + r, and r has no power from x^m on.
pub record Remainder {F : Type 0} (o : Ops F) (g : List F) (m : ℕ) (p r : List F) : Type 0 where
  pub degree : Degree o g m
  pub quotient : List F
  pub sum : Same o p (plus o (times o quotient g) r)
  pub low : (i : ℕ) → m ≤ i → coeff o r i ≡ o.nought
