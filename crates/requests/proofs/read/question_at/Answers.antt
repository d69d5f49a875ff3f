use Rattle.std.proofs.Common.{sym, ◌∙◌, inr, arith}
use Rattle.tokens.proofs.Exits.{handed_on}
use Rattle.requests.proofs.NoQuestions.{begins}
use Rattle.requests.proofs.NoRequests.{no_question}
use Rattle.requests.proofs.read.question_at.Goals as goal

pub returns-in_err-question-in-p : goal.returns-in_err-question-in-p
returns-in_err-question-in-p c =
    handed_on _ c.from_residual.result c.from_residual.ensures.1 c.in_err-question-in-p.ensures
    (λ none. no_question c.args.verb.now c.args.letter.now c.args.rest c.requires (λ _. none) (λ d. absurd (omega (arith, begins (sym d ∙ c.in-p.is)))) (λ e. absurd (omega (arith, begins (sym e ∙ c.in-p.is)))))

pub returns-in_err-question-in-d : goal.returns-in_err-question-in-d
returns-in_err-question-in-d c =
    handed_on _ c.from_residual-in_err-question-in-d.result c.from_residual-in_err-question-in-d.ensures.1 c.in_err-question-in-d.ensures
    (λ none. no_question c.args.verb.now c.args.letter.now c.args.rest c.requires (λ p. absurd (omega (arith, begins (sym p ∙ c.in-d.is)))) (λ _. none) (λ e. absurd (omega (arith, begins (sym e ∙ c.in-d.is)))))

pub returns-in_err-question-in-e : goal.returns-in_err-question-in-e
returns-in_err-question-in-e c =
    handed_on _ c.from_residual-in_err-question-in-e.result c.from_residual-in_err-question-in-e.ensures.1 c.in_err-question-in-e.ensures
    (λ none. no_question c.args.verb.now c.args.letter.now c.args.rest c.requires (λ p. absurd (omega (arith, begins (sym p ∙ c.in-e.is)))) (λ d. absurd (omega (arith, begins (sym d ∙ c.in-e.is)))) (λ _. none))

pub returns-in_default : goal.returns-in_default
returns-in_default c =
    inr (no_question c.args.verb.now c.args.letter.now c.args.rest c.requires (λ p. absurd (c.in_default.not-p p)) (λ d. absurd (c.in_default.not-d d)) (λ e. absurd (c.in_default.not-e e)))
