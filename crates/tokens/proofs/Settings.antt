-- A key with a number is one word, and what stands behind the key, or behind the word, is one text.
use Rattle.std.proofs.Common.{◌≡◌, ℕ, ◌^◌, ◌<◌, ◌≤◌, List, ◌++◌, decimal, sym, ◌∙◌, arith}
use Rattle.std.proofs.lemmas.List.{append_cancel_left}
use Rattle.std.specs.Str.Iter.{LacksByte}
use Rattle.tokens.specs.declared.piece.Piece.{Piece}
use Rattle.tokens.specs.Words.{spaced, Plain, Behind}
use Rattle.tokens.proofs.Blanks.{cut_once, plain_key}
use Rattle.tokens.proofs.Decimals.{plain_decimal}

pub behind_key : {key : List ℕ} {whole rest : Piece} → Behind key whole rest → (v : List ℕ) → whole.text.now ≡ key ++ v → rest.text.now ≡ v
behind_key {key} {whole} {rest} cut v e = append_cancel_left key rest.text.now v (sym cut.text ∙ e)

module _ (key : List ℕ) (most : ℕ) (lacks : LacksByte 32 key) (fits : most < 2 ^ 64) where
  pub plain_setting : (n : ℕ) → n ≤ most → Plain (key ++ decimal n)
  plain_setting n small = plain_key key (decimal n) lacks (plain_decimal n (omega arith))

  pub behind_setting : {t u v : List ℕ} {m n : ℕ} → (m ≤ most) × (t ≡ spaced (key ++ decimal m) u) → n ≤ most → t ≡ spaced (key ++ decimal n) v → u ≡ v
  behind_setting {t} {u} {v} {m} {n} cut small e =
      (cut_once 32 (key ++ decimal m) u (key ++ decimal n) v (plain_setting m cut.0).1 (plain_setting n small).1 (sym cut.1 ∙ e)).1
