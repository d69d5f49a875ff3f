use Rattle.tokens.proofs.Exits.{refused}
use Rattle.calls.proofs.Lanes.{behind_number}
use Rattle.calls.proofs.NoCalls.{no_read}
use Rattle.std.proofs.Common.{arith}
use Rattle.tokens.proofs.Decimals.{no_number}
use Rattle.calls.proofs.words.read.Goals as goal

pub returns-in_err-place : goal.returns-in_err-place
returns-in_err-place c =
    refused _ _ c.from_residual-in_err-place.ensures.0
    (no_read _ (λ lane place small low e. no_number _ _ _ _ c.in_err-place.ensures place (omega arith) low (behind_number c.in_ok-lane.ensures.told small e)))
