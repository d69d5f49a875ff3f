-- Bytes as hex digits, and why a text is none.
use Rattle.std.specs.Prelude.{◌≡◌, ℕ, ◌/◌, ◌%◌, ◌<◌, Bool, false, ◌&&◌, ◌||◌, List, [], ◌∷◌, length, ◌≢◌, nat_le, slice_index}
use Rattle.std.specs.Char.{digit_char}
use Rattle.tokens.specs.declared.fault.Fault.{Fault}
use Rattle.tokens.specs.declared.fault.Fault.TheVariants.{Memory, Shape, Key, Digit, Half, Number, Long, Text}
use Rattle.tokens.specs.Columns.{ahead}

-- 0..9 and a..f
abbrev pub is_hex : ℕ → Bool
is_hex b = (nat_le 48 b && nat_le b 57) || (nat_le 97 b && nat_le b 102)

-- the two digits of a byte
abbrev pub two_digits : ℕ → List ℕ
two_digits b = digit_char (b / 16) ∷ digit_char (b % 16) ∷ []

-- two digits for each byte
abbrev pub spelled : List ℕ → List ℕ
spelled [] = []
spelled (b ∷ bs) = digit_char (b / 16) ∷ digit_char (b % 16) ∷ spelled bs

-- `-` for no bytes
abbrev pub shown_bytes : List ℕ → List ℕ
shown_bytes [] = 45 ∷ []
shown_bytes (b ∷ bs) = spelled (b ∷ bs)

-- each is a byte
abbrev pub Bytes : List ℕ → Type 0
Bytes bs = (i : ℕ) → slice_index bs i < 256

-- no bytes are shown so
abbrev pub NoBytes : List ℕ → Type 0
NoBytes t = (bs : List ℕ) → Bytes bs → t ≢ shown_bytes bs

-- `at` is the column of a byte that is no digit, in a text that begins at column c
abbrev pub NoDigit : ℕ → ℕ → List ℕ → Type 0
NoDigit at c t = (i : ℕ) × (at ≡ ahead c i) × (i < length t) × (is_hex (slice_index t i) ≡ false)

-- what a refusal of hex text says of it; the text begins at column c
abbrev pub BadBytes : Fault → ℕ → List ℕ → Type 0
BadBytes Memory c t = Unit {0}
BadBytes Shape c t = ⊥
BadBytes Key c t = ⊥
BadBytes (Digit at) c t = NoDigit at c t
BadBytes Half c t = length t % 2 ≡ 1
BadBytes Number c t = ⊥
BadBytes Long c t = ⊥
BadBytes (Text at) c t = ⊥

-- and a refusal of one byte
abbrev pub BadByte : Fault → ℕ → List ℕ → Type 0
BadByte Memory c t = ⊥
BadByte Shape c t = ⊥
BadByte Key c t = ⊥
BadByte (Digit at) c t = NoDigit at c t
BadByte Half c t = length t < 2
BadByte Number c t = 2 < length t
BadByte Long c t = ⊥
BadByte (Text at) c t = ⊥
