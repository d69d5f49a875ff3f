-- The items of a whole message: what the walk over it hands out, step by step, up to the end or a fault.
use Rattle.std.specs.Prelude.{ℕ, zero, suc, ◌+◌, List, [], ◌∷◌, length, drop, Ok, Err, Result}
use Rattle.packet.specs.Packets.{Packet, packet_symbols}
use Rattle.packet.specs.Reading.{Step, packet, end, fault, from_feed}
use Rattle.packet.specs.declared.fault.PacketFault.{PacketFault}

-- A packet is followed by the steps behind all its bytes, of which its feed byte is read already; the end and a fault are last.
abbrev pub with_rest : Step → (ℕ → List Step) → List Step
with_rest (packet x p) rest = packet x p ∷ rest (2 + length x.label + length x.body)
with_rest (end p) rest = end p ∷ []
with_rest (fault f) rest = fault f ∷ []

-- The steps from the place p on, where the first k bytes still belong to the packet before.
abbrev pub items_from : (k p : ℕ) → List ℕ → List Step
items_from k p [] = end p ∷ []
items_from (suc k) p (b ∷ bs) = items_from k (p + 1) bs
items_from zero p (b ∷ bs) = with_rest (from_feed p (b ∷ bs)) (λ k. items_from k (p + 1) bs)

-- The packets of a message from the place p on, with their places, and then the end or a fault.
abbrev pub items_at : (p : ℕ) → List ℕ → List Step
items_at p message = items_from 0 p (drop p message)

-- The same from the first byte on.
abbrev pub items : List ℕ → List Step
items message = items_from 0 0 message

-- The number of packets, n of which were counted before, or the fault.
abbrev pub counted : ℕ → List Step → Result ℕ PacketFault
counted n [] = Ok n
counted n (packet x p ∷ more) = counted (n + 1) more
counted n (end p ∷ more) = Ok n
counted n (fault f ∷ more) = Err f

-- The number of packets of a message, or the fault that the walk meets.
abbrev pub count_of : List ℕ → Result ℕ PacketFault
count_of message = counted 0 (items message)

-- Packets one behind the other from the place p on, and then the end.
abbrev pub placed : (p : ℕ) → List Packet → List Step
placed p [] = end p ∷ []
placed p (x ∷ ps) = packet x p ∷ placed (p + length (packet_symbols x)) ps
