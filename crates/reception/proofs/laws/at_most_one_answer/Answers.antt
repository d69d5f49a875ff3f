use Rattle.reception.proofs.One.{one_answer}
use Rattle.reception.proofs.laws.at_most_one_answer.Goals as goal

pub returns : goal.returns
returns c = one_answer
