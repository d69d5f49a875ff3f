-- Packets, and the symbols that they are sent as.
use Rattle.std.specs.Prelude.{ℕ, ◌<◌, ◌≤◌, List, ◌∷◌, ◌++◌, length}
use Rattle.std.specs.List.{flat_map, AllByRecursion}

-- A packet: the feed that it is from, its label, and its data as the body.
pub record Packet : Type 0 where
  pub feed : ℕ
  pub label : List ℕ
  pub body : List ℕ

-- The bytes of a list are below 256.
abbrev pub Bytes : List ℕ → Type 0
Bytes xs = AllByRecursion (λ b. b < 256) xs

-- The length of the longest label.
abbrev pub longest_label : ℕ
longest_label = 16

-- A feed from 1 to 255, a label of at most 16 bytes, and 1 to 255 bytes of data.
pub record WellFormed (x : Packet) : Type 0 where
  pub feed : (0 < x.feed) × (x.feed < 256)
  pub label : (length x.label ≤ longest_label) × Bytes x.label
  pub body : (0 < length x.body) × (length x.body < 256) × Bytes x.body

-- The symbols of one packet: feed, label count, label, data count, data.
abbrev pub packet_symbols : Packet → List ℕ
packet_symbols x = x.feed ∷ length x.label ∷ x.label ++ (length x.body ∷ x.body)

-- The symbols of packets, one packet after another.
abbrev pub symbols : List Packet → List ℕ
symbols ps = flat_map packet_symbols ps
