-- The line that tells the items of a message.
use Rattle.std.specs.Prelude.{ℕ, List, ◌∷◌, ◌++◌, codes, decimal}
use Rattle.std.specs.List.{flat_map}
use Rattle.tokens.specs.Bytes.{shown_bytes}
use Rattle.packet.specs.Reading.{Step, packet, end, fault}
use Rattle.packet.specs.Faults.{fault_number, fault_place}
use Rattle.packet.specs.declared.fault.PacketFault.{PacketFault}

-- A packet begins with its place and its feed.
abbrev pub packet_front : (place feed : ℕ) → List ℕ
packet_front place feed = codes "P@" ++ (decimal place ++ (codes ":" ++ (decimal feed ++ codes ":")))

-- Its label and its data follow in hex, with `-` for no bytes.
abbrev pub shown_packet : (place feed : ℕ) (label body : List ℕ) → List ℕ
shown_packet place feed label body = packet_front place feed ++ (shown_bytes label ++ (codes ":" ++ shown_bytes body))

-- The place at which the packets end.
abbrev pub shown_end : (place : ℕ) → List ℕ
shown_end place = codes "END@" ++ decimal place

-- The number and the place of a fault.
abbrev pub fault_text : PacketFault → List ℕ
fault_text f = codes "F" ++ (decimal (fault_number f) ++ (codes "@" ++ decimal (fault_place f)))

-- What a step of the walk over a message is told as.
abbrev pub shown_step : Step → List ℕ
shown_step (packet x place) = shown_packet place x.feed x.label x.body
shown_step (end place) = shown_end place
shown_step (fault f) = fault_text f

-- Steps, each behind a blank.
abbrev pub parted : List Step → List ℕ
parted steps = flat_map (λ s. 32 ∷ shown_step s) steps

-- The line with the items of a message.
abbrev pub next_line : (id : List ℕ) → List Step → List ℕ
next_line id steps = codes "next " ++ (id ++ (codes " =" ++ parted steps))
