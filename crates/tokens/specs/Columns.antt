-- Columns of a line.
use Rattle.std.specs.Prelude.{ℕ, ◌+◌, ◌-◌, ◌^◌, min}

-- the column n bytes after the column c, or the largest that there is
abbrev pub ahead : ℕ → ℕ → ℕ
ahead c n = min (c + n) (2 ^ 64 - 1)
