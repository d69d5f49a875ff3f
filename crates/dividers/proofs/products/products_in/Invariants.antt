use Rattle.std.proofs.Common.{◌≡◌, ℕ, ◌-◌, ◌<◌, get_or}
use Rattle.dividers.specs.Bits.{pushed}
use Rattle.dividers.proofs.products.products_in.Given as goal

abbrev pub invariant-loop-bit : goal.invariant-loop-bit
invariant-loop-bit l =
    (k : ℕ) → k < 32 → pushed (8 - l._bit) l.z (get_or l.masks k 0) (get_or l.products k 0) ≡ pushed 8 l.f (get_or l.masks k 0) 0
