use Rattle.block.proofs.Places.{interleaved}
use Rattle.block.proofs.lanes.interleaving_stands.Goals as goal

pub returns : goal.returns
returns c = interleaved
