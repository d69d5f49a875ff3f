-- Sums of powers over a list of places.
use Rattle.std.specs.Prelude.{ℕ, List, [], ◌∷◌, ◌≢◌}
use Rattle.field.specs.Field.{Ops, power}

-- P holds of each entry.
abbrev pub Each : {A : Type 0} → (A → Type 0) → List A → Type 0
Each P [] = Unit {0}
Each P (a ∷ ls) = P a × Each P ls

-- The locators x of the entries all differ.
abbrev pub Distinct : {K A : Type 0} → (A → K) → List A → Type 0
Distinct x [] = Unit {0}
Distinct x (b ∷ ls) = Each (λ a. x a ≢ x b) ls × Distinct x ls

-- The power sum with exponent k: the sum of v(a)·x(a)^k over the entries.
unfoldable pub psum : {K A : Type 0} → Ops K → (A → K) → (A → K) → List A → ℕ → K
psum o v x [] k = o.nought
psum o v x (a ∷ ls) k = o.sum (o.product (v a) (power o (x a) k)) (psum o v x ls k)
