use Rattle.accounts.proofs.Tells.{one_line}
use Rattle.accounts.proofs.receiving.at_most_one_line.Goals as goal

pub returns : goal.returns
returns c = one_line
