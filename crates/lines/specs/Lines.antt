-- The lines of a text, each of bounded length.
use Rattle.std.specs.Prelude.{ℕ, ◌+◌, List, [], ◌∷◌, length, take, None, Some, Ok, Err, Option, Result, nat_le, ◌==◌, if◌then◌else◌}
use Rattle.std.specs.Io.BufRead.{first_piece}
use Rattle.std.specs.Str.Lines.{strip_carriage_return}
use Rattle.tokens.specs.declared.fault.Fault.{Fault}
use Rattle.tokens.specs.declared.fault.Fault.TheVariants.{Long}

-- the longest line that is kept
abbrev pub longest : ℕ
longest = 65536

-- the bytes before the first line feed, or all
abbrev pub line_of : List ℕ → List ℕ
line_of xs = first_piece 10 xs

-- a line is kept, or refused where it is too long
abbrev pub read_as : List ℕ → Result (Unit {0}) Fault
read_as line = if nat_le (length line) longest then Ok tt else Err Long

-- what reading a line comes to: none at the end, or the first line
abbrev pub outcome : List ℕ → Option (Result (Unit {0}) Fault)
outcome xs = if length xs == 0 then None else Some (read_as (line_of xs))

-- what is kept of the line: all, or as many bytes as show that it is too long
abbrev pub kept : List ℕ → List ℕ
kept xs = take (longest + 1) (line_of xs)

-- a line without a carriage return at its end
abbrev pub without_return : List ℕ → List ℕ
without_return line = strip_carriage_return line

-- a byte before the first line, or the only byte
abbrev pub with_byte : ℕ → List (List ℕ) → List (List ℕ)
with_byte x [] = (x ∷ []) ∷ []
with_byte x (l ∷ ls) = (x ∷ l) ∷ ls

-- the lines of a text, without their line feeds; the last may lack its line feed
abbrev pub lines_of : List ℕ → List (List ℕ)
lines_of [] = []
lines_of (x ∷ xs) = if x == 10 then [] ∷ lines_of xs else with_byte x (lines_of xs)
