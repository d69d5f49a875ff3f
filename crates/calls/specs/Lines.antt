-- The line that a call on a bank is written as: words, with one blank between.
use Rattle.std.specs.Prelude.{ℕ, ◌^◌, ◌<◌, List, string_bytes, codes, decimal, ◌≢◌}
use Rattle.tokens.specs.Bytes.{two_digits}
use Rattle.tokens.specs.Words.{spaced, Plain}
use Rattle.calls.specs.declared.call.Call.{Call}
use Rattle.calls.specs.declared.call.Call.TheVariants.{Bank, Take, Read, Set, Clear, Hold, Restore, Regs, End}

-- lanes and places in decimal, bytes as two hex digits; a plan is all that stands behind `level=0` and its blank
abbrev pub written_call : Call → List ℕ
written_call (Bank id plan) = spaced (codes "bank") (spaced (string_bytes id) (spaced (codes "level=0") (string_bytes plan)))
written_call (Take lane byte) = spaced (codes "take") (spaced (decimal lane) (two_digits byte))
written_call (Read lane place) = spaced (codes "read") (spaced (decimal lane) (decimal place))
written_call (Set lane place byte) = spaced (codes "set") (spaced (decimal lane) (spaced (decimal place) (two_digits byte)))
written_call Clear = codes "clear"
written_call Hold = codes "hold"
written_call Restore = codes "restore"
written_call (Regs lane) = spaced (codes "regs") (decimal lane)
written_call End = codes "end"

-- numbers are those of 64 bits, bytes are bytes, and an id is one word
abbrev pub GoodCall : Call → Type 0
GoodCall (Bank id plan) = Plain (string_bytes id)
GoodCall (Take lane byte) = (lane < 2 ^ 64) × (byte < 256)
GoodCall (Read lane place) = (lane < 2 ^ 64) × (place < 2 ^ 64)
GoodCall (Set lane place byte) = (lane < 2 ^ 64) × (place < 2 ^ 64) × (byte < 256)
GoodCall Clear = Unit {0}
GoodCall Hold = Unit {0}
GoodCall Restore = Unit {0}
GoodCall (Regs lane) = lane < 2 ^ 64
GoodCall End = Unit {0}

-- no call is written so
abbrev pub NoCall : List ℕ → Type 0
NoCall line = (q : Call) → GoodCall q → line ≢ written_call q

-- none of the calls that are a word alone
abbrev pub NotBare : List ℕ → Type 0
NotBare line = (line ≢ codes "clear") × (line ≢ codes "hold") × (line ≢ codes "restore") × (line ≢ codes "end")
