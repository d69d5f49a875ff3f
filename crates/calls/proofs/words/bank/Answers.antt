use Rattle.tokens.proofs.Blanks.{parted}
use Rattle.tokens.proofs.Exits.{refused}
use Rattle.calls.proofs.NoCalls.{no_bank}
use Rattle.calls.proofs.words.bank.Goals as goal

pub returns-in_err-plan : goal.returns-in_err-plan
returns-in_err-plan c =
    refused _ _ c.from_residual-in_err-plan.ensures.0
    (no_bank _ (λ id plan plain e. c.in_err-plan.ensures.1 plan (parted c.in_ok-id.ensures _ _ plain e).1))
