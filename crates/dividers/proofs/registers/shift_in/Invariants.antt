use Rattle.std.proofs.Common.{◌≡◌, ℕ, ◌<◌, ◌≤◌, ◌∷◌, bit_xor, get_or}
use Rattle.dividers.proofs.registers.shift_in.Given as goal

abbrev pub invariant-loop-place : goal.invariant-loop-place
invariant-loop-place l =
    (l.below ≡ get_or (0 ∷ l.initial.registers) l.place 0)
    × ((k : ℕ) → k < l.place → get_or l.registers k 0 ≡ bit_xor (get_or (0 ∷ l.initial.registers) k 0) (get_or l.row k 0))
    × ((k : ℕ) → l.place ≤ k → get_or l.registers k 0 ≡ get_or l.initial.registers k 0)
