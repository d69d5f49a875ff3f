-- Polynomials as lists of coefficients, lowest power first: their values and their roots.
use Rattle.std.specs.Prelude.{◌≡◌, ℕ, ◌-◌, ◌<◌, List, [], ◌∷◌, Option}
use Rattle.field.specs.Field.{Ops, alpha_power}
use Rattle.field.specs.First.{first_of}

-- The sum of c·p, of the next coefficient times p·x, and so on.
unfoldable pub terms : {F : Type 0} → Ops F → List F → F → F → F
terms o [] x p = o.nought
terms o (c ∷ cs) x p = o.sum (o.product c p) (terms o cs x (o.product p x))

-- The value at x: the sum of each coefficient times its power of x.
unfoldable pub value : {F : Type 0} → Ops F → List F → F → F
value o cs x = terms o cs x o.unit

-- The first exponent from n on, below the order of α, whose power of α is a root.
unfoldable pub first_root : {F : Type 0} → Ops F → List F → ℕ → Option ℕ
first_root o cs n = first_of (λ k. o.same (value o cs (alpha_power o k)) o.nought) (o.order - n) n

-- The polynomial is zero at f 0, f 1 and so on, c elements.
abbrev pub Vanishes : {F : Type 0} → Ops F → (ℕ → F) → ℕ → List F → Type 0
Vanishes o f c w = (k : ℕ) → k < c → value o w (f k) ≡ o.nought

-- The first n of the elements f 0, f 1 and so on are different.
abbrev pub Apart : {F : Type 0} → (ℕ → F) → ℕ → Type 0
Apart f n = (i j : ℕ) → i < n → j < n → f i ≡ f j → i ≡ j
