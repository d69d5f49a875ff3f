-- What stands at a place of a message: its bytes in reading order, where the first rule that is broken decides.
use Rattle.std.specs.Prelude.{ℕ, ◌+◌, cond, List, [], ◌∷◌, length, take, drop, Ok, Err, Result, ◌==◌, nat_lt}
use Rattle.packet.specs.Packets.{Packet, longest_label}
use Rattle.packet.specs.declared.fault.PacketFault.{PacketFault}
use Rattle.packet.specs.declared.fault.PacketFault.TheVariants.{LabelCount, NoData, PastEnd, AfterEnd}
use Rattle.packet.specs.declared.item.Item.{Item}
use Rattle.packet.specs.declared.item.Item.TheVariants as item

-- A step of the walk: a packet with its place, the end with its place, or a fault.
pub data Step : Type 0 where
  packet : (x : Packet) (place : ℕ) → Step
  end : (place : ℕ) → Step
  fault : PacketFault → Step

-- The step that an answer tells.
abbrev pub told : Result Item PacketFault → Step
told (Ok (item.Packet f l d p)) = packet (record { feed = f; label = l.now; body = d.now }) p
told (Ok (item.End p)) = end p
told (Err f) = fault f

-- The end at p; each byte from q on has to be 00.
abbrev pub filled : (p q : ℕ) → List ℕ → Step
filled p q [] = end p
filled p q (b ∷ bs) = cond (b == 0) (filled p (q + 1) bs) (fault (AfterEnd q))

-- From the data count on, in the packet at p with feed f and label l.
abbrev pub from_data : (p f : ℕ) (l : List ℕ) → List ℕ → Step
from_data p f l [] = fault (PastEnd p)
from_data p f l (n ∷ bs) =
    cond (n == 0) (fault (NoData (p + 2 + length l))) (cond (nat_lt (length bs) n) (fault (PastEnd p)) (packet (record { feed = f; label = l; body = take n bs }) p))

-- From the label count on, in the packet at p with feed f.
abbrev pub from_label : (p f : ℕ) → List ℕ → Step
from_label p f [] = fault (PastEnd p)
from_label p f (n ∷ bs) =
    cond (nat_lt longest_label n) (fault (LabelCount (p + 1))) (cond (nat_lt (length bs) n) (fault (PastEnd p)) (from_data p f (take n bs) (drop n bs)))

-- From the feed byte on, which stands at p; 00 is the end, and so is no byte at all.
abbrev pub from_feed : (p : ℕ) → List ℕ → Step
from_feed p [] = end p
from_feed p (f ∷ bs) = cond (f == 0) (filled p (p + 1) bs) (from_label p f bs)

-- What stands at the place p of a message.
abbrev pub step_at : (p : ℕ) → List ℕ → Step
step_at p message = from_feed p (drop p message)

-- How many bytes a step takes: a packet its symbols, the end and a fault none.
abbrev pub size : Step → ℕ
size (packet x p) = 3 + length x.label + length x.body
size (end p) = 0
size (fault f) = 0
