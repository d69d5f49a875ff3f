use Rattle.reception.proofs.One.{one_codeword}
use Rattle.reception.proofs.laws.at_most_one_codeword.Goals as goal

pub returns : goal.returns
returns c = one_codeword
