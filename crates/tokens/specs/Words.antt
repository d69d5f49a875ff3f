-- Words and blanks.
use Rattle.std.specs.Prelude.{◌≡◌, ℕ, ◌<◌, List, ◌∷◌, ◌++◌, length}
use Rattle.std.specs.Str.Iter.{LacksByte}
use Rattle.tokens.specs.declared.piece.Piece.{Piece}
use Rattle.tokens.specs.Columns.{ahead}

-- one blank between two texts
abbrev pub spaced : List ℕ → List ℕ → List ℕ
spaced a b = a ++ 32 ∷ b

-- a word has a byte, and no blank
abbrev pub Plain : List ℕ → Type 0
Plain w = (0 < length w) × LacksByte 32 w

-- what stands before the first of a byte, and what stands behind it
pub record CutAt (mark : ℕ) (whole first rest : List ℕ) : Type 0 where
  pub text : whole ≡ first ++ mark ∷ rest
  pub lacks : LacksByte mark first

-- a word, and what follows the blank after it, at their columns
pub record Cut (whole first rest : Piece) : Type 0 where
  pub text : whole.text.now ≡ spaced first.text.now rest.text.now
  pub plain : Plain first.text.now
  pub starts : first.column ≡ whole.column
  pub goes : rest.column ≡ ahead (ahead whole.column (length first.text.now)) 1

-- what stands behind a key, at its column
pub record Behind (key : List ℕ) (whole rest : Piece) : Type 0 where
  pub text : whole.text.now ≡ key ++ rest.text.now
  pub goes : rest.column ≡ ahead whole.column (length key)
