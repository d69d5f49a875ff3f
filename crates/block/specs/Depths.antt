-- The depths that there are, and the length of a block.
use Rattle.std.specs.Prelude.{ℕ, ◌*◌, Bool, ◌&&◌, ◌||◌, ◌==◌, nat_le}
use Rattle.code.specs.Code.{telemetry}

-- 1, 2, 3, 4, 5 and 8.
abbrev pub is_depth : ℕ → Bool
is_depth d = (nat_le 1 d && nat_le d 5) || d == 8

-- The bytes of a block: a codeword's symbols for each lane.
abbrev pub block_length : ℕ → ℕ
block_length d = telemetry.symbols * d
