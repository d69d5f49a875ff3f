-- Exponents as text.
use Rattle.std.specs.Prelude.{ℕ, List, [], ◌∷◌, ◌++◌, Some, None, decimal, Option}

-- An exponent in decimal; a star where there is none.
abbrev pub shown : Option ℕ → List ℕ
shown None = 42 ∷ []
shown (Some n) = decimal n

-- Exponents, each with a blank before it.
unfoldable pub spaced : List (Option ℕ) → List ℕ
spaced [] = []
spaced (n ∷ ns) = 32 ∷ (shown n ++ spaced ns)

-- Exponents with one blank between them.
unfoldable pub joined : List (Option ℕ) → List ℕ
joined [] = []
joined (n ∷ ns) = shown n ++ spaced ns

-- One line: the exponents with one blank between them, and a line feed last.
abbrev pub line : List (Option ℕ) → List ℕ
line ns = joined ns ++ 10 ∷ []
