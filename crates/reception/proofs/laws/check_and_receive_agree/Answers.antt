use Rattle.reception.proofs.Agreed.{check_agrees}
use Rattle.reception.proofs.laws.check_and_receive_agree.Goals as goal

pub returns : goal.returns
returns c = check_agrees
