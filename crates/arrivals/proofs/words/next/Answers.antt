use Rattle.tokens.proofs.Blanks.{parted}
use Rattle.tokens.proofs.Exits.{handed_on}
use Rattle.arrivals.proofs.NoArrivals.{no_next}
use Rattle.arrivals.proofs.words.next.Goals as goal

pub returns-in_err-message : goal.returns-in_err-message
returns-in_err-message c =
    handed_on _ c.from_residual-in_err-message.result c.from_residual-in_err-message.ensures.1 c.in_err-message.ensures
    (λ none. no_next _ (λ id message plain ok e. none message ok (parted c.in_ok-id.ensures _ _ plain e).1))
