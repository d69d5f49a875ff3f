-- The registers of a divider, R_0 first, over any kind of field element: what they hold after symbols are taken.
use Rattle.std.specs.Prelude.{◌-◌, List, [], ◌∷◌, reverse, length, replicate}
use Rattle.field.specs.Field.{Ops}
use Rattle.polynomial.specs.Coefficients.{coeff}
use Rattle.code.specs.Code.{Code}
use Rattle.generator.specs.Generator.{generator}

-- Each register becomes what the one before it held, and f times its coefficient of g; before the first stands `before`.
unfoldable pub moved : {F : Type 0} → Ops F → F → F → List F → List F → List F
moved o f before [] g = []
moved o f before (r ∷ rs) [] = []
moved o f before (r ∷ rs) (a ∷ g) = o.sum before (o.product f a) ∷ moved o f r rs g

-- What goes back into the registers as the symbol m is taken: the sum of m and the last register.
abbrev pub feedback : {F : Type 0} → Ops F → List F → F → F
feedback o rs m = o.sum m (coeff o rs (length rs - 1))

-- The symbol m taken: with f = m + R_last, R_0 becomes f·G_0, and R_i becomes R_(i-1) + f·G_i.
unfoldable pub taken : {F : Type 0} → Ops F → List F → List F → F → List F
taken o g rs m = moved o (feedback o rs m) o.nought rs g

-- Symbols taken in their order.
unfoldable pub all_taken : {F : Type 0} → Ops F → List F → List F → List F → List F
all_taken o g rs [] = rs
all_taken o g rs (m ∷ ms) = all_taken o g (taken o g rs m) ms

-- The registers at first: as many zeros as the code has checks.
abbrev pub cleared : {F : Type 0} → Ops F → Code → List F
cleared o c = replicate c.checks o.nought

-- What the registers of a code hold that took the symbols ms, zero at first.
abbrev pub registers : {F : Type 0} → Ops F → Code → List F → List F
registers o c ms = all_taken o (generator o c) (cleared o c) ms

-- The check symbols of a message in the order in which they are sent: R_last first.
abbrev pub checks : {F : Type 0} → Ops F → Code → List F → List F
checks o c ms = reverse (registers o c ms)
