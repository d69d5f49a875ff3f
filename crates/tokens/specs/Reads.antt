-- What a reader of text gives back.
use Rattle.std.specs.Prelude.{◌≡◌, ℕ, ◌⊎◌, List, Result, MatchResult}
use Rattle.tokens.specs.declared.fault.Fault.{Fault}
use Rattle.tokens.specs.declared.fault.Fault.TheVariants.{Memory}

-- a value that is written as the text, or a refusal: for want of memory, or because no value is written so
abbrev pub Reads : {T : Type 0} → (T → List ℕ) → (List ℕ → Type 0) → List ℕ → Result T Fault → Type 0
Reads written Unread t r = MatchResult r (λ x. t ≡ written x) (λ f. (f ≡ Memory) ⊎ Unread t)
