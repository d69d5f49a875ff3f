use Rattle.std.proofs.Common.{arith}
use Rattle.tokens.proofs.Blanks.{parted}
use Rattle.spelling.proofs.Commas.{plain_list}
use Rattle.tokens.proofs.Decimals.{no_number}
use Rattle.tokens.proofs.Exits.{refused, handed_on}
use Rattle.requests.proofs.NoQuestions.{no_root}
use Rattle.requests.proofs.questions.root.Goals as goal

pub returns-in_err-list : goal.returns-in_err-list
returns-in_err-list g c =
    refused _ _ c.from_residual.ensures.0
    (no_root g.F.Spelled.written c.args.piece (λ p n small e. c.in_err-list.ensures.1 _ _ (plain_list g.F.Spelled.written g.met.F.Spelled.plain p) e))

pub returns-in_err-coefficients : goal.returns-in_err-coefficients
returns-in_err-coefficients g c =
    handed_on _ c.from_residual-in_err-coefficients.result c.from_residual-in_err-coefficients.ensures.1 c.in_err-coefficients.ensures
    (λ none. no_root g.F.Spelled.written c.args.piece (λ p n small e. none p (parted c.in_ok-list.ensures _ _ (plain_list g.F.Spelled.written g.met.F.Spelled.plain p) e).0))

pub returns-in_err-from : goal.returns-in_err-from
returns-in_err-from g c =
    refused _ _ c.from_residual-in_err-from.ensures.0
    (no_root g.F.Spelled.written c.args.piece (λ p n small e. no_number _ _ _ _ c.in_err-from.ensures n (omega arith) small (parted c.in_ok-list.ensures _ _ (plain_list g.F.Spelled.written g.met.F.Spelled.plain p) e).1))
