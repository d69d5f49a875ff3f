use Rattle.std.proofs.Common.{◌≡◌, ℕ, ◌<◌, ◌≤◌, get_or}
use Rattle.dividers.specs.Bits.{pushed_bit}
use Rattle.dividers.proofs.products.push_bits.Given as goal

abbrev pub invariant-loop-place : goal.invariant-loop-place
invariant-loop-place l =
    ((k : ℕ) → k < l.place → get_or l.products k 0 ≡ pushed_bit (get_or l.initial.products k 0) l.z (get_or l.masks k 0))
    × ((k : ℕ) → l.place ≤ k → get_or l.products k 0 ≡ get_or l.initial.products k 0)
