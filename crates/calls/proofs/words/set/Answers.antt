use Rattle.tokens.proofs.Digits.{no_byte}
use Rattle.tokens.proofs.Exits.{refused}
use Rattle.calls.proofs.Lanes.{behind_number}
use Rattle.calls.proofs.NoCalls.{no_set}
use Rattle.std.proofs.Common.{[], refl, arith}
use Rattle.tokens.proofs.Blanks.{lacks_told}
use Rattle.calls.proofs.words.set.Goals as goal

pub returns-in_err-place : goal.returns-in_err-place
returns-in_err-place c =
    refused _ _ c.from_residual-in_err-place.ensures.0
    (no_set _ (λ lane place b small low few e. c.in_err-place.ensures.told (lacks_told [] refl) place _ (omega arith) (behind_number c.in_ok-lane.ensures.told small e)))

pub returns-in_err-byte : goal.returns-in_err-byte
returns-in_err-byte c =
    refused _ _ c.from_residual-in_err-byte.ensures.0
    (no_set _ (λ lane place b small low few e.
    no_byte _ _ _ c.in_err-byte.ensures b few
    (behind_number c.in_ok-place.ensures.told low (behind_number c.in_ok-lane.ensures.told small e))))
