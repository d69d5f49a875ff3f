-- Lists of values that have a written form.
use Rattle.std.specs.Prelude.{◌≡◌, ℕ, ◌<◌, List, [], ◌∷◌, ◌++◌, length, ◌≢◌}
use Rattle.std.specs.Str.Iter.{LacksByte}

-- the written form of a value has a byte, no blank and no comma, and is not `-`
pub record Single (w : List ℕ) : Type 0 where
  pub some : 0 < length w
  pub no_blank : LacksByte 32 w
  pub no_comma : LacksByte 44 w
  pub no_dash : w ≡ 45 ∷ [] → ⊥

module _ {A : Type 0} (written : A → List ℕ) where
  -- each with a comma before it
  abbrev pub others : List A → List ℕ
  others [] = []
  others (x ∷ xs) = 44 ∷ written x ++ others xs

  -- `-` for none, otherwise the written forms with single commas between
  abbrev pub written_list : List A → List ℕ
  written_list [] = 45 ∷ []
  written_list (x ∷ xs) = written x ++ others xs

  -- no list is written so
  abbrev pub NoList : List ℕ → Type 0
  NoList t = (xs : List A) → t ≢ written_list xs
