-- What a test over all numbers below a bound gives at each of them.
use mathlib.Core.Path.{◌≡◌, sym, subst}
use mathlib.Core.Bool.{Bool, true, false}
use mathlib.Core.List.{List}
use Prim.Native.Nat.{ℕ, zero, suc, ◌<◌}
use native.Mathlib.Omega.{arith}
use borrow.Author.Count.{below_more}
use lib.Dec.{eqb, eqb→eq, T}
use lib.ListN.{get_or}
use Rattle.table.specs.Computed.{both, all_below, tabulates}

pub both_left : (a b : Bool) → T (both a b) → T a
both_left true b t = tt
both_left false b t = t

pub both_right : (a b : Bool) → T (both a b) → T b
both_right true b t = t
both_right false b t = absurd t

pub below : (n : ℕ) (passes : ℕ → Bool) → T (all_below n passes) → (k : ℕ) → k < n → T (passes k)
below zero passes t k h = absurd (let z : k < 0 = h in omega arith)
below (suc n) passes t k h =
    below_more (λ k. T (passes k)) n (below n passes (both_right (passes n) (all_below n passes) t)) (both_left (passes n) (all_below n passes) t) k (omega arith)

-- Two functions agree at every number below n.
pub agree : (n : ℕ) (f g : ℕ → ℕ) → T (all_below n (λ k. eqb (f k) (g k))) → (k : ℕ) → k < n → f k ≡ g k
agree n f g t k h = eqb→eq (f k) (g k) (below n (λ k. eqb (f k) (g k)) t k h)

pub tabulated : (n : ℕ) (f : ℕ → ℕ) (xs : List ℕ) → tabulates n f xs ≡ true → (k : ℕ) → k < n → get_or xs k 0 ≡ f k
unfolding tabulates
tabulated n f xs e = agree n (λ k. get_or xs k 0) f (subst T (sym e) tt)
