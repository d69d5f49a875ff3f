-- Lines that are no request.
use Rattle.std.proofs.Common.{◌≡◌, ℕ, ◌^◌, ◌<◌, Option, None, Some, get_or, List, ◌++◌, codes, decimal, sym, refl, ap, ◌∙◌, arith, rules}
use Rattle.std.specs.Str.Iter.{LacksByte}
use Rattle.tokens.specs.declared.piece.Piece.{Piece}
use Rattle.tokens.specs.Bytes.{shown_bytes, Bytes}
use Rattle.spelling.specs.Kinds.{power_text, dual_text, logarithm_text}
use Rattle.tokens.specs.Words.{spaced, Plain}
use Rattle.tokens.proofs.Blanks.{lacks_told}
use Rattle.tokens.proofs.Verbs.{told_word, verb_is}
use Rattle.requests.specs.declared.request.Question.{Question}
use Rattle.requests.specs.declared.requested.Request.TheVariants.{Check, AtPower, AtDual, AtExponent}
use Rattle.requests.specs.Lines.{InRange, kinded, asked, NoQuestion, NoRequest, Asking}
use Rattle.requests.proofs.NoQuestions.{asked_words, kind_next, same_kind, not_check}

-- a text that is no check's, behind its verb
pub no_check : (t : List ℕ) → ((id : List ℕ) (d : ℕ) (bs : List ℕ) → Plain id → d < 2 ^ 64 → Bytes bs → t ≡ spaced id (spaced (codes "depth=" ++ decimal d) (codes "block=" ++ shown_bytes bs)) → ⊥) → NoRequest (spaced (codes "check") t)
no_check t none = search (rules, not_check power_text, not_check dual_text, not_check logarithm_text)

-- no word and blank at all
pub no_words : (line : List ℕ) → ((a b : List ℕ) → Plain a → line ≡ spaced a b → ⊥) → NoRequest line
no_words line none (Check id depth block) good e = none (codes "check") _ (told_word (codes "check") (omega arith) refl) e
no_words line none (AtPower q) good e = let w = asked_words power_text (codes "p") q in none w.0 w.1 w.2 (e ∙ w.3)
no_words line none (AtDual q) good e = let w = asked_words dual_text (codes "d") q in none w.0 w.1 w.2 (e ∙ w.3)
no_words line none (AtExponent q) good e = let w = asked_words logarithm_text (codes "e") q in none w.0 w.1 w.2 (e ∙ w.3)

module _ (verb : List ℕ) (plain : Plain verb) (no_check_verb : verb ≡ codes "check" → ⊥) where
  no_check_asked : (t u : List ℕ) → spaced verb t ≡ spaced (codes "check") u → ⊥
  no_check_asked t u e = no_check_verb (verb_is verb t plain (codes "check") u refl e)

  -- a verb with no kind behind it
  pub no_kind : (t : List ℕ) → (verb ≡ codes "const" → ⊥) → ((a b : List ℕ) → Plain a → t ≡ spaced a b → ⊥) → NoRequest (spaced verb t)
  no_kind t other none (Check id depth block) good e = no_check_asked t _ e
  no_kind t other none (AtPower q) good e = let k = kind_next power_text verb t (codes "p") plain other q e in none (codes "p") k.0 (told_word (codes "p") (omega arith) refl) k.1
  no_kind t other none (AtDual q) good e = let k = kind_next dual_text verb t (codes "d") plain other q e in none (codes "d") k.0 (told_word (codes "d") (omega arith) refl) k.1
  no_kind t other none (AtExponent q) good e = let k = kind_next logarithm_text verb t (codes "e") plain other q e in none (codes "e") k.0 (told_word (codes "e") (omega arith) refl) k.1

module _ (verb at : List ℕ) (rest : Option Piece) (asking : Asking verb at rest) where
  not_checks : (r : Option Piece) → Asking verb at r → (t u : List ℕ) → spaced verb t ≡ spaced (codes "check") u → ⊥
  not_checks None (plain, is) t u e = omega (arith, ap (λ l. get_or l 1 0) (sym is ∙ verb_is verb t plain (codes "check") u refl e))
  not_checks (Some r) (plain, other, one) t u e = no_check_asked verb plain other t u e

  at_kind : {F : Type 0} (form : F → List ℕ) (kind : List ℕ) → LacksByte 32 kind → (at ≡ kind → NoQuestion form verb rest) → (q : Question F) → InRange q → spaced verb (kinded at rest) ≡ asked form kind q → ⊥
  at_kind form kind lacks none q fits e =
      let is = same_kind form verb at kind rest asking lacks q e in
      none is kind q fits (ap (λ l. spaced verb (kinded l rest)) (sym is) ∙ e)

  -- a verb that asks nothing at that kind
  pub no_question : (at ≡ codes "p" → NoQuestion power_text verb rest) → (at ≡ codes "d" → NoQuestion dual_text verb rest) → (at ≡ codes "e" → NoQuestion logarithm_text verb rest) → NoRequest (spaced verb (kinded at rest))
  no_question p d e (Check id depth block) good is = not_checks rest asking _ _ is
  no_question p d e (AtPower q) good is = at_kind power_text (codes "p") (lacks_told (codes "p") refl) p q good is
  no_question p d e (AtDual q) good is = at_kind dual_text (codes "d") (lacks_told (codes "d") refl) d q good is
  no_question p d e (AtExponent q) good is = at_kind logarithm_text (codes "e") (lacks_told (codes "e") refl) e q good is
