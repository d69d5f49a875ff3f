use Rattle.tokens.proofs.Blanks.{parted}
use Rattle.spelling.proofs.Commas.{plain_list}
use Rattle.tokens.proofs.Exits.{refused, handed_on}
use Rattle.requests.proofs.NoQuestions.{no_evaluate}
use Rattle.requests.proofs.questions.evaluate.Goals as goal

pub returns-in_err-list : goal.returns-in_err-list
returns-in_err-list g c =
    refused _ _ c.from_residual.ensures.0
    (no_evaluate g.F.Spelled.written c.args.piece (λ p x e. c.in_err-list.ensures.1 _ _ (plain_list g.F.Spelled.written g.met.F.Spelled.plain p) e))

pub returns-in_err-coefficients : goal.returns-in_err-coefficients
returns-in_err-coefficients g c =
    handed_on _ c.from_residual-in_err-coefficients.result c.from_residual-in_err-coefficients.ensures.1 c.in_err-coefficients.ensures
    (λ none. no_evaluate g.F.Spelled.written c.args.piece (λ p x e. none p (parted c.in_ok-list.ensures _ _ (plain_list g.F.Spelled.written g.met.F.Spelled.plain p) e).0))

pub returns-in_err-x : goal.returns-in_err-x
returns-in_err-x g c =
    refused _ _ c.from_residual-in_err-x.ensures.0
    (no_evaluate g.F.Spelled.written c.args.piece (λ p x e. c.in_err-x.ensures x (parted c.in_ok-list.ensures _ _ (plain_list g.F.Spelled.written g.met.F.Spelled.plain p) e).1))
