-- The faults of a message.
use Rattle.std.specs.Prelude.{ℕ}
use Rattle.packet.specs.declared.fault.PacketFault.{PacketFault}
use Rattle.packet.specs.declared.fault.PacketFault.TheVariants.{LabelCount, NoData, PastEnd, AfterEnd}

-- The number of each fault.
abbrev pub fault_number : PacketFault → ℕ
fault_number (LabelCount p) = 17
fault_number (NoData p) = 18
fault_number (PastEnd p) = 19
fault_number (AfterEnd p) = 20

-- The place of each fault.
abbrev pub fault_place : PacketFault → ℕ
fault_place (LabelCount p) = p
fault_place (NoData p) = p
fault_place (PastEnd p) = p
fault_place (AfterEnd p) = p
