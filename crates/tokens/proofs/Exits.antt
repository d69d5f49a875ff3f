-- What a refusal inside a function says of its own text.
use Rattle.std.proofs.Common.{◌≡◌, true, ◌⊎◌, is_err, IsErrAnd, Ok, Err, Result, ◌∙◌, inl, inr, ⊎_elim, MatchResult}
use Rattle.std.proofs.lemmas.Result.{MatchResult-from_err}
use Rattle.tokens.specs.declared.fault.Fault.{Fault}
use Rattle.tokens.specs.declared.fault.Fault.TheVariants.{Memory}

module _ {T No : Type 0} (P : T → Type 0) where
  -- a refusal that is never for want of memory
  pub refused : (r : Result T Fault) → is_err r ≡ true → No → MatchResult r P (λ f. (f ≡ Memory) ⊎ No)
  refused r e why = MatchResult-from_err r P _ e (λ _. inr why)

  -- a refusal that may be for want of memory
  pub handed_on : {f : Fault} {None : Type 0} (r : Result T Fault) → IsErrAnd r (λ y. y ≡ f) → (f ≡ Memory) ⊎ None → (None → No) → MatchResult r P (λ y. (y ≡ Memory) ⊎ No)
  handed_on (Ok x) h why so = absurd h
  handed_on (Err y) h why so = ⊎_elim (λ m. inl (h ∙ m)) (λ none. inr (so none)) why
