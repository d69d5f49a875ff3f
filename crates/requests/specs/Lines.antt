-- The line that a request is written as: words, with one blank between.
use Rattle.std.specs.Prelude.{◌≡◌, ℕ, ◌^◌, ◌<◌, ◌⊎◌, Option, None, Some, List, Result, MatchResult, ◌++◌, vec_items, string_bytes, codes, decimal, ◌≢◌}
use Rattle.tokens.specs.declared.fault.Fault.{Fault}
use Rattle.tokens.specs.declared.fault.Fault.TheVariants.{Memory}
use Rattle.tokens.specs.declared.piece.Piece.{Piece}
use Rattle.tokens.specs.Bytes.{shown_bytes, Bytes}
use Rattle.spelling.specs.Kinds.{power_text, dual_text, logarithm_text}
use Rattle.spelling.specs.Lists.{written_list}
use Rattle.tokens.specs.Words.{spaced, Plain}
use Rattle.requests.specs.declared.request.Question.{Question}
use Rattle.requests.specs.declared.request.Question.TheVariants.{Constants, Operate, Evaluate, Divide, Root}
use Rattle.requests.specs.declared.requested.Request.{Request}
use Rattle.requests.specs.declared.requested.Request.TheVariants.{Check, AtPower, AtDual, AtExponent}

-- numbers are those of 64 bits
abbrev pub InRange : {F : Type 0} → Question F → Type 0
InRange Constants = Unit {0}
InRange (Operate a b) = Unit {0}
InRange (Evaluate p x) = Unit {0}
InRange (Divide buffer by) = Unit {0}
InRange (Root p n) = n < 2 ^ 64

-- a kind, and what follows the blank behind it, if anything does
abbrev pub kinded : List ℕ → Option Piece → List ℕ
kinded kind None = kind
kinded kind (Some rest) = spaced kind rest.text.now

module _ {F : Type 0} (form : F → List ℕ) where
  -- a question about elements that are written by `form`, with the letter of their kind
  abbrev pub asked : List ℕ → Question F → List ℕ
  asked kind Constants = spaced (codes "const") kind
  asked kind (Operate a b) = spaced (codes "op") (spaced kind (spaced (form a) (form b)))
  asked kind (Evaluate p x) = spaced (codes "eval") (spaced kind (spaced (written_list form (vec_items p)) (form x)))
  asked kind (Divide buffer by) = spaced (codes "div") (spaced kind (spaced (written_list form (vec_items buffer)) (written_list form (vec_items by))))
  asked kind (Root p n) = spaced (codes "root") (spaced kind (spaced (written_list form (vec_items p)) (decimal n)))

  -- a verb with any kind and what follows it asks this
  abbrev pub Asks : List ℕ → Option Piece → Question F → Type 0
  Asks verb rest q = (kind : List ℕ) → spaced verb (kinded kind rest) ≡ asked kind q

  -- and it asks nothing, whatever the kind
  abbrev pub NoQuestion : List ℕ → Option Piece → Type 0
  NoQuestion verb rest = (kind : List ℕ) (q : Question F) → InRange q → spaced verb (kinded kind rest) ≢ asked kind q

  -- a question that the text asks, or a refusal: for want of memory, or because it asks nothing
  abbrev pub Poses : List ℕ → Option Piece → Result (Question F) Fault → Type 0
  Poses verb rest r = MatchResult r (Asks verb rest) (λ f. (f ≡ Memory) ⊎ NoQuestion verb rest)

-- the letters p, d and e are power form, dual form and exponent form
abbrev pub written : Request → List ℕ
written (Check id depth block) = spaced (codes "check") (spaced (string_bytes id) (spaced (codes "depth=" ++ decimal depth) (codes "block=" ++ shown_bytes (vec_items block))))
written (AtPower q) = asked power_text (codes "p") q
written (AtDual q) = asked dual_text (codes "d") q
written (AtExponent q) = asked logarithm_text (codes "e") q

-- numbers and bytes are in range, and an id is one word
abbrev pub Good : Request → Type 0
Good (Check id depth block) = Plain (string_bytes id) × (depth < 2 ^ 64) × Bytes (vec_items block)
Good (AtPower q) = InRange q
Good (AtDual q) = InRange q
Good (AtExponent q) = InRange q

-- no request is written so
abbrev pub NoRequest : List ℕ → Type 0
NoRequest line = (q : Request) → Good q → line ≢ written q

-- a verb of a question, and a kind: one word if anything follows it
abbrev pub Asking : List ℕ → List ℕ → Option Piece → Type 0
Asking verb kind None = Plain verb × (verb ≡ codes "const")
Asking verb kind (Some rest) = Plain verb × (verb ≢ codes "check") × Plain kind
