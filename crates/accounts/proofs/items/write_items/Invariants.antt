use Rattle.std.proofs.Common.{◌≡◌, ◌-◌, ◌++◌, length, string_bytes}
use Rattle.packet.specs.Items.{items_at, items}
use Rattle.accounts.specs.Next.{parted}
use Rattle.accounts.proofs.items.write_items.Given as goal

abbrev pub invariant-loop : goal.invariant-loop
invariant-loop l =
    (l.walk.message.now ≡ l.message)
    × (string_bytes l.text ++ parted (items_at l.walk.place l.message) ≡ string_bytes l.initial.text ++ parted (items l.message))

abbrev pub decreases-loop : goal.decreases-loop
decreases-loop l = length l.message - l.walk.place
