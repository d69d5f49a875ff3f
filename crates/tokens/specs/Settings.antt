-- Numbers behind a key as text, and why a text has none.
use Rattle.std.specs.Prelude.{◌≡◌, ℕ, ◌≤◌, ◌⊎◌, List, ◌++◌, decimal, ◌≢◌}
use Rattle.tokens.specs.declared.fault.Fault.{Fault}
use Rattle.tokens.specs.declared.fault.Fault.TheVariants.{Key, Shape}
use Rattle.tokens.specs.declared.piece.Piece.{Piece}
use Rattle.tokens.specs.Numbers.{BadNumber}
use Rattle.tokens.specs.Words.{spaced, Plain, Cut, Behind}

-- no key, number up to `most`, blank and more are written so
abbrev pub NoSetting : List ℕ → ℕ → List ℕ → Type 0
NoSetting key most t = (n : ℕ) (rest : List ℕ) → n ≤ most → t ≢ spaced (key ++ decimal n) rest

-- what follows the blank after the first word, at its column
abbrev pub FollowsWord : Piece → Piece → Type 0
FollowsWord whole rest = (first : Piece) × Cut whole first rest

-- what a refusal says of a text: it has no first word; or that does not begin with the key; or what stands behind the key there is no number
abbrev pub BadSetting : Fault → List ℕ → ℕ → Piece → Type 0
BadSetting f key most whole =
    ((f ≡ Shape) × ((a b : List ℕ) → Plain a → whole.text.now ≢ spaced a b))
    ⊎ ((first : Piece) × (rest : Piece) × Cut whole first rest
    × (((f ≡ Key) × ((v : List ℕ) → first.text.now ≢ key ++ v))
    ⊎ ((digits : Piece) × Behind key first digits × BadNumber f most digits.column digits.text.now)))
