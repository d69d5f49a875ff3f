-- What a line that begins with a verb says of the verb.
use Rattle.std.proofs.Common.{◌≡◌, ℕ, ◌<◌, true, List, length, sym}
use Rattle.tokens.specs.Words.{spaced, Plain}
use Rattle.tokens.proofs.Blanks.{cut_once, no_cut, no_blank, lacks_told}

-- a word that is written out is a word
pub told_word : (w : List ℕ) → 0 < length w → no_blank w ≡ true → Plain w
told_word w some told = (some, lacks_told w told)

module _ (verb t : List ℕ) (plain : Plain verb) where
  -- it is the first word of any text that the line is written as
  pub verb_is : (w u : List ℕ) → no_blank w ≡ true → spaced verb t ≡ spaced w u → verb ≡ w
  verb_is w u told e = (cut_once 32 verb t w u plain.1 (lacks_told w told) e).0

  -- what stands behind it is the rest of that text
  pub rest_is : (w u : List ℕ) → no_blank w ≡ true → spaced verb t ≡ spaced w u → t ≡ u
  rest_is w u told e = (cut_once 32 verb t w u plain.1 (lacks_told w told) e).1

  -- and the line is no word alone
  pub not_alone : (w : List ℕ) → no_blank w ≡ true → spaced verb t ≡ w → ⊥
  not_alone w told e = no_cut 32 w verb t (lacks_told w told) (sym e)
