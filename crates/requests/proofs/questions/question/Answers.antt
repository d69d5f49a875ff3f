use Rattle.std.proofs.Common.{None, Some, inr}
use Rattle.requests.proofs.NoQuestions.{no_verb}
use Rattle.requests.proofs.questions.question.Goals as goal

pub returns-in_default-verb : goal.returns-in_default-verb
returns-in_default-verb g c = rw c.in_default.is (inr (no_verb g.F.Spelled.written c.args.verb.now None c.requires c.in_default-verb.not-const))

pub returns-in_default-verb-2 : goal.returns-in_default-verb-2
returns-in_default-verb-2 g c =
    let other = c.in_default-verb-2 in
    rw c.in-Some.is (inr (no_verb g.F.Spelled.written c.args.verb.now (Some c.in-Some.piece) c.requires (other.not-op, other.not-eval, other.not-div, other.not-root)))
