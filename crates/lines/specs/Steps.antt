-- What reading a part of a line does, whether or not the reader's bytes are known.
use Rattle.std.specs.Prelude.{◌≡◌, ℕ, ◌<◌, ◌≤◌, ◌⊎◌, List, [], ◌∷◌, ◌++◌, length, Option, OnSome}
use Rattle.std.specs.Io.{StopsAt}
use Rattle.std.specs.Io.KnownBytes.{Consumes, IsAtEnd}

-- n bytes, at most `room`, moved from the reader behind the line; only the last of them may be a line feed, and there is none only at the end
pub record Moved (before after : Option (List ℕ)) (room n : ℕ) (line longer : List ℕ) : Type 0 where
  pub part : List ℕ
  pub count : n ≡ length part
  pub fits : n ≤ room
  pub appended : longer ≡ line ++ part
  pub stops : StopsAt part 10
  pub gone : Consumes before after part
  pub none : n ≡ 0 → 0 < room → OnSome before (IsAtEnd after)

-- the bytes end with a line feed
abbrev pub EndsLine : List ℕ → Type 0
EndsLine line = (front : List ℕ) × (line ≡ front ++ 10 ∷ [])

-- the line moved from the reader; it ends with its first line feed, or has `most` bytes, or nothing is left
pub record Gathered (before after : Option (List ℕ)) (most : ℕ) (line : List ℕ) : Type 0 where
  pub fits : length line ≤ most
  pub stops : StopsAt line 10
  pub gone : Consumes before after line
  pub ends : EndsLine line ⊎ ((length line ≡ most) ⊎ OnSome before (IsAtEnd after))
