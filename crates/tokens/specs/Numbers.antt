-- Decimal text, and why a text is no number.
use Rattle.std.specs.Prelude.{◌≡◌, ℕ, ◌^◌, ◌<◌, ◌≤◌, List, length, decimal, ◌≢◌, slice_index}
use Rattle.std.specs.Int.{IsInRange}
use Rattle.tokens.specs.declared.fault.Fault.{Fault}
use Rattle.tokens.specs.declared.fault.Fault.TheVariants.{Memory, Shape, Key, Digit, Half, Number, Long, Text}
use Rattle.tokens.specs.Columns.{ahead}

-- each byte is one of 0..9
abbrev pub AllDigits : List ℕ → Type 0
AllDigits t = (i : ℕ) → i < length t → IsInRange 48 57 (slice_index t i)

-- no number of 64 bits up to `most` is written so
abbrev pub NoNumber : ℕ → List ℕ → Type 0
NoNumber most t = (n : ℕ) → n ≤ most → n < 2 ^ 64 → t ≢ decimal n

-- what a refusal says of the text, which begins at column c
abbrev pub BadNumber : Fault → ℕ → ℕ → List ℕ → Type 0
BadNumber Memory most c t = ⊥
BadNumber Shape most c t = ⊥
BadNumber Key most c t = ⊥
BadNumber (Digit at) most c t = (i : ℕ) × (at ≡ ahead c i) × (i < length t) × (IsInRange 48 57 (slice_index t i) → ⊥)
BadNumber Half most c t = ⊥
BadNumber Number most c t = NoNumber most t
BadNumber Long most c t = ⊥
BadNumber (Text at) most c t = ⊥
