use Rattle.tokens.proofs.Digits.{no_byte}
use Rattle.tokens.proofs.Exits.{refused}
use Rattle.calls.proofs.Lanes.{behind_number}
use Rattle.calls.proofs.NoCalls.{no_take}
use Rattle.calls.proofs.words.take.Goals as goal

pub returns-in_err-byte : goal.returns-in_err-byte
returns-in_err-byte c =
    refused _ _ c.from_residual-in_err-byte.ensures.0
    (no_take _ (λ lane b small few e. no_byte _ _ _ c.in_err-byte.ensures b few (behind_number c.in_ok-lane.ensures.told small e)))
