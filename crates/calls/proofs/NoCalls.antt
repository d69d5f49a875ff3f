-- Lines that are no call.
use Rattle.std.proofs.Common.{◌≡◌, ℕ, ◌^◌, ◌<◌, List, codes, decimal, refl, arith, rules}
use Rattle.tokens.specs.Bytes.{two_digits}
use Rattle.tokens.specs.Words.{spaced, Plain}
use Rattle.calls.specs.declared.call.Call.TheVariants.{Bank, Take, Read, Set, Clear, Hold, Restore, Regs, End}
use Rattle.calls.specs.Lines.{NoCall, NotBare}
use Rattle.tokens.proofs.Verbs.{told_word, verb_is, not_alone}

-- a text behind a verb that has no word, `level=0` and a plan
pub no_bank : (t : List ℕ) → ((id plan : List ℕ) → Plain id → t ≡ spaced id (spaced (codes "level=0") plan) → ⊥) → NoCall (spaced (codes "bank") t)
no_bank t none = search rules

-- a text that is no lane and byte
pub no_take : (t : List ℕ) → ((lane byte : ℕ) → lane < 2 ^ 64 → byte < 256 → t ≡ spaced (decimal lane) (two_digits byte) → ⊥) → NoCall (spaced (codes "take") t)
no_take t none = search rules

-- a text that is no lane and place
pub no_read : (t : List ℕ) → ((lane place : ℕ) → lane < 2 ^ 64 → place < 2 ^ 64 → t ≡ spaced (decimal lane) (decimal place) → ⊥) → NoCall (spaced (codes "read") t)
no_read t none = search rules

-- a text that is no lane, place and byte
pub no_set : (t : List ℕ) → ((lane place byte : ℕ) → lane < 2 ^ 64 → place < 2 ^ 64 → byte < 256 → t ≡ spaced (decimal lane) (spaced (decimal place) (two_digits byte)) → ⊥) → NoCall (spaced (codes "set") t)
no_set t none = search rules

-- a line with no blank behind a word, and no call that is a word alone
pub no_words : (line : List ℕ) → NotBare line → ((a b : List ℕ) → Plain a → line ≡ spaced a b → ⊥) → NoCall line
no_words line bare none (Bank id plan) good e = none (codes "bank") _ (told_word (codes "bank") (omega arith) refl) e
no_words line bare none (Take lane byte) good e = none (codes "take") _ (told_word (codes "take") (omega arith) refl) e
no_words line bare none (Read lane place) good e = none (codes "read") _ (told_word (codes "read") (omega arith) refl) e
no_words line bare none (Set lane place byte) good e = none (codes "set") _ (told_word (codes "set") (omega arith) refl) e
no_words line bare none Clear good e = bare.0 e
no_words line bare none Hold good e = bare.1 e
no_words line bare none Restore good e = bare.2 e
no_words line bare none (Regs lane) good e = none (codes "regs") _ (told_word (codes "regs") (omega arith) refl) e
no_words line bare none End good e = bare.3 e

-- a verb of no call
abbrev pub Other : List ℕ → Type 0
Other verb = (verb ≡ codes "bank" → ⊥) × (verb ≡ codes "take" → ⊥) × (verb ≡ codes "read" → ⊥) × (verb ≡ codes "set" → ⊥) × (verb ≡ codes "regs" → ⊥)

pub no_verb : (verb t : List ℕ) → Plain verb → Other verb → NoCall (spaced verb t)
no_verb verb t plain other (Bank id plan) good e = other.0 (verb_is verb t plain (codes "bank") _ refl e)
no_verb verb t plain other (Take lane byte) good e = other.1 (verb_is verb t plain (codes "take") _ refl e)
no_verb verb t plain other (Read lane place) good e = other.2 (verb_is verb t plain (codes "read") _ refl e)
no_verb verb t plain other (Set lane place byte) good e = other.3 (verb_is verb t plain (codes "set") _ refl e)
no_verb verb t plain other Clear good e = not_alone verb t plain (codes "clear") refl e
no_verb verb t plain other Hold good e = not_alone verb t plain (codes "hold") refl e
no_verb verb t plain other Restore good e = not_alone verb t plain (codes "restore") refl e
no_verb verb t plain other (Regs lane) good e = other.4 (verb_is verb t plain (codes "regs") _ refl e)
no_verb verb t plain other End good e = not_alone verb t plain (codes "end") refl e
