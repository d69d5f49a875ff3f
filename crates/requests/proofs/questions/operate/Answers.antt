use Rattle.tokens.proofs.Blanks.{parted}
use Rattle.tokens.proofs.Exits.{refused}
use Rattle.spelling.proofs.Commas.{one_word}
use Rattle.requests.proofs.NoQuestions.{no_operate}
use Rattle.requests.proofs.questions.operate.Goals as goal

pub returns-in_err-a : goal.returns-in_err-a
returns-in_err-a g c =
    refused _ _ c.from_residual.ensures.0
    (no_operate g.F.Spelled.written c.args.piece (λ a b e. c.in_err-a.ensures.1 _ _ (one_word (g.met.F.Spelled.plain a)) e))

pub returns-in_err-a-2 : goal.returns-in_err-a-2
returns-in_err-a-2 g c =
    refused _ _ c.from_residual-in_err-a-2.ensures.0
    (no_operate g.F.Spelled.written c.args.piece (λ a b e. c.in_err-a-2.ensures a (parted c.in_ok-a.ensures _ _ (one_word (g.met.F.Spelled.plain a)) e).0))

pub returns-in_err-b : goal.returns-in_err-b
returns-in_err-b g c =
    refused _ _ c.from_residual-in_err-b.ensures.0
    (no_operate g.F.Spelled.written c.args.piece (λ a b e. c.in_err-b.ensures b (parted c.in_ok-a.ensures _ _ (one_word (g.met.F.Spelled.plain a)) e).1))
