-- What stands behind a lane or a place is one text.
use Rattle.std.proofs.Common.{◌≡◌, ℕ, ◌^◌, ◌-◌, ◌<◌, ◌≤◌, List, [], decimal, refl, arith}
use Rattle.tokens.specs.Words.{spaced}
use Rattle.tokens.proofs.Blanks.{lacks_told}
use Rattle.tokens.proofs.Settings.{behind_setting}

pub behind_number : {t u v : List ℕ} {m n : ℕ} → (m ≤ 2 ^ 64 - 1) × (t ≡ spaced (decimal m) u) → n < 2 ^ 64 → t ≡ spaced (decimal n) v → u ≡ v
behind_number cut small e = behind_setting [] (2 ^ 64 - 1) (lacks_told [] refl) (omega arith) cut (omega arith) e
