use Rattle.std.proofs.Common.{◌≡◌, ◌-◌, ◌≤◌, length}
use Rattle.packet.specs.Items.{items_at, counted, count_of}
use Rattle.packet.proofs.counting.count_packets.Given as goal

abbrev pub invariant-loop-packets : goal.invariant-loop-packets
invariant-loop-packets l =
    (l.walk.message.now ≡ l.message) × (l.packets ≤ l.walk.place)
    × (counted l.packets (items_at l.walk.place l.message) ≡ count_of l.message)

abbrev pub decreases-loop-packets : goal.decreases-loop-packets
decreases-loop-packets l = length l.message - l.walk.place
