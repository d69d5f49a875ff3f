-- Banks as they are written.
use Rattle.std.specs.Prelude.{◌≡◌, ℕ, zero, suc, ◌+◌, ◌≤◌, Bool, true, false, List, [], ◌∷◌, ◌++◌, replicate}
use Rattle.bank.specs.Lanes.{Lanes, zeros, beside}
use Rattle.rack.specs.declared.kind.Kind.{Kind}
use Rattle.rack.specs.declared.kind.Kind.TheVariants.{Table, Serial}

-- How a bank is made: a table divider, a bit-serial divider, k table dividers in pairs, a pair, or a holder.
pub data Plan : Type 0 where
  table : Plan
  serial : Plan
  tables : ℕ → Plan
  pair : Plan → Plan → Plan
  holder : Plan → Plan

-- The text of a plan: T, B, the digit k, (x,y) and h[x].
unfoldable pub plan_text : Plan → List ℕ
plan_text table = 84 ∷ []
plan_text serial = 66 ∷ []
plan_text (tables k) = (48 + k) ∷ []
plan_text (pair x y) = 40 ∷ (plan_text x ++ 44 ∷ (plan_text y ++ 41 ∷ []))
plan_text (holder x) = 104 ∷ 91 ∷ (plan_text x ++ 93 ∷ [])

-- Digits are 2 to 8, and at most n pairs and holders stand inside one another.
abbrev pub Within : ℕ → Plan → Type 0
Within n table = Unit {0}
Within n serial = Unit {0}
Within n (tables k) = (2 ≤ k) × (k ≤ 8)
Within zero (pair x y) = ⊥
Within (suc n) (pair x y) = Within n x × Within n y
Within zero (holder x) = ⊥
Within (suc n) (holder x) = Within n x

-- The dividers of a plan, from left to right.
unfoldable pub dividers_of : Plan → List Kind
dividers_of table = Table ∷ []
dividers_of serial = Serial ∷ []
dividers_of (tables k) = replicate k Table
dividers_of (pair x y) = dividers_of x ++ dividers_of y
dividers_of (holder x) = dividers_of x

-- The lanes of the bank, all registers zero.
unfoldable pub lanes_of : Plan → Lanes
lanes_of table = zeros ∷ []
lanes_of serial = zeros ∷ []
lanes_of (tables k) = replicate k zeros
lanes_of (pair x y) = beside (lanes_of x) (lanes_of y)
lanes_of (holder x) = lanes_of x

-- Whether the whole bank is a holder, whose copy can be asked for.
abbrev pub is_holder : Plan → Bool
is_holder table = false
is_holder serial = false
is_holder (tables k) = false
is_holder (pair x y) = false
is_holder (holder x) = true

-- The text begins with that of a plan.
pub record Begins (n : ℕ) (text rest : List ℕ) (p : Plan) : Type 0 where
  pub within : Within n p
  pub text_is : text ≡ plan_text p ++ rest

-- The text begins with that of no plan.
abbrev pub BeginsNone : ℕ → List ℕ → Type 0
BeginsNone n text = (p : Plan) (rest : List ℕ) → Begins n text rest p → ⊥
