-- What the faults are told as.
use Rattle.std.specs.Prelude.{ℕ, List, codes, Some, None, Option}
use Rattle.block.specs.Verdicts.{number}
use Rattle.packet.specs.Faults.{fault_number, fault_place}
use Rattle.reception.specs.declared.fault.ReceiveFault.{ReceiveFault}
use Rattle.reception.specs.declared.fault.ReceiveFault.TheVariants.{Block, MessageLength, Lane, Packets}
use Rattle.reception.specs.declared.fault.Refusal.{Refusal}
use Rattle.reception.specs.declared.fault.Layer.{Layer}
use Rattle.reception.specs.declared.fault.Layer.TheVariants as layer
use Rattle.reception.specs.declared.fault.Spot.{Spot}
use Rattle.reception.specs.declared.fault.Spot.TheVariants as spot

-- The number, the layer, and the lane or place of each fault.
abbrev pub refusal_of : ReceiveFault → Refusal
refusal_of (Block f) = record { number = number f; layer = layer.Block; spot = spot.Nowhere }
refusal_of MessageLength = record { number = 15; layer = layer.Receiver; spot = spot.Nowhere }
refusal_of (Lane f) = record { number = 16; layer = layer.Codeword; spot = spot.Lane f.lane }
refusal_of (Packets f) = record { number = fault_number f; layer = layer.Receiver; spot = spot.Place (fault_place f) }

-- The lane that is named, and the place.
abbrev pub lane_of : Spot → Option ℕ
lane_of spot.Nowhere = None
lane_of (spot.Lane l) = Some l
lane_of (spot.Place p) = None

abbrev pub place_of : Spot → Option ℕ
place_of spot.Nowhere = None
place_of (spot.Lane l) = None
place_of (spot.Place p) = Some p

-- The name of a layer.
abbrev pub layer_name : Layer → List ℕ
layer_name layer.Codeword = codes "codeword"
layer_name layer.Block = codes "block"
layer_name layer.Receiver = codes "receiver"
