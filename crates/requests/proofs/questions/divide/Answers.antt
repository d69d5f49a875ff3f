use Rattle.tokens.proofs.Blanks.{parted}
use Rattle.spelling.proofs.Commas.{plain_list}
use Rattle.tokens.proofs.Exits.{refused, handed_on}
use Rattle.requests.proofs.NoQuestions.{no_divide}
use Rattle.requests.proofs.questions.divide.Goals as goal

pub returns-in_err-buffer : goal.returns-in_err-buffer
returns-in_err-buffer g c =
    refused _ _ c.from_residual.ensures.0
    (no_divide g.F.Spelled.written c.args.piece (λ p d e. c.in_err-buffer.ensures.1 _ _ (plain_list g.F.Spelled.written g.met.F.Spelled.plain p) e))

pub returns-in_err-buffer-2 : goal.returns-in_err-buffer-2
returns-in_err-buffer-2 g c =
    handed_on _ c.from_residual-in_err-buffer-2.result c.from_residual-in_err-buffer-2.ensures.1 c.in_err-buffer-2.ensures
    (λ none. no_divide g.F.Spelled.written c.args.piece (λ p d e. none p (parted c.in_ok-buffer.ensures _ _ (plain_list g.F.Spelled.written g.met.F.Spelled.plain p) e).0))

pub returns-in_err-by : goal.returns-in_err-by
returns-in_err-by g c =
    handed_on _ c.from_residual-in_err-by.result c.from_residual-in_err-by.ensures.1 c.in_err-by.ensures
    (λ none. no_divide g.F.Spelled.written c.args.piece (λ p d e. none d (parted c.in_ok-buffer.ensures _ _ (plain_list g.F.Spelled.written g.met.F.Spelled.plain p) e).1))
