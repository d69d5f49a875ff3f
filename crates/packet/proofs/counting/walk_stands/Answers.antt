use Rattle.packet.proofs.Back.{walks_back}
use Rattle.packet.proofs.Only.{only_packets}
use Rattle.packet.proofs.counting.walk_stands.Goals as goal

pub returns : goal.returns
returns c = record { back = walks_back; only = only_packets }
