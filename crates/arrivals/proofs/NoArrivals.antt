-- Lines that are no request about a received block or message.
use Rattle.std.proofs.Common.{◌≡◌, ℕ, ◌^◌, ◌<◌, ◌≤◌, List, ◌++◌, codes, decimal, refl, arith, rules}
use Rattle.tokens.specs.Bytes.{shown_bytes, Bytes}
use Rattle.tokens.specs.Words.{spaced, Plain}
use Rattle.tokens.proofs.Verbs.{told_word, verb_is}
use Rattle.arrivals.specs.declared.arrival.Arrival.TheVariants.{Receive, Next}
use Rattle.arrivals.specs.Lines.{NoArrival}

-- a text that is no id, depth, length and block
pub no_receive : (t : List ℕ) → ((id : List ℕ) (depth size : ℕ) (block : List ℕ) → Plain id → depth < 2 ^ 64 → size ≤ 65535 → Bytes block → t ≡ spaced id (spaced (codes "depth=" ++ decimal depth) (spaced (codes "msglen=" ++ decimal size) (codes "block=" ++ shown_bytes block))) → ⊥) → NoArrival (spaced (codes "receive") t)
no_receive t none = search rules

-- a text that is no id and message
pub no_next : (t : List ℕ) → ((id message : List ℕ) → Plain id → Bytes message → t ≡ spaced id (shown_bytes message) → ⊥) → NoArrival (spaced (codes "next") t)
no_next t none = search rules

-- a line with no blank behind a word
pub no_words : (line : List ℕ) → ((a b : List ℕ) → Plain a → line ≡ spaced a b → ⊥) → NoArrival line
no_words line none (Receive id depth size block) good e = none (codes "receive") _ (told_word (codes "receive") (omega arith) refl) e
no_words line none (Next id message) good e = none (codes "next") _ (told_word (codes "next") (omega arith) refl) e

-- another verb
pub no_verb : (verb t : List ℕ) → Plain verb → (verb ≡ codes "receive" → ⊥) → (verb ≡ codes "next" → ⊥) → NoArrival (spaced verb t)
no_verb verb t plain receive next (Receive id depth size block) good e = receive (verb_is verb t plain (codes "receive") _ refl e)
no_verb verb t plain receive next (Next id message) good e = next (verb_is verb t plain (codes "next") _ refl e)
