-- The laws of the walk.
use Rattle.std.specs.Prelude.{◌≡◌, ℕ, List, ◌++◌, length, replicate, Ok}
use Rattle.std.specs.List.{AllByRecursion}
use Rattle.packet.specs.Packets.{Packet, Bytes, WellFormed, symbols}
use Rattle.packet.specs.Items.{items, count_of, placed}

-- A message that consists of well-formed packets, and bytes 00 for the rest.
pub record Consists (message : List ℕ) (ps : List Packet) : Type 0 where
  pub well_formed : AllByRecursion WellFormed ps
  pub fill : ℕ
  pub is : message ≡ symbols ps ++ replicate fill 0

-- The walk over it: those packets with their places, then the end.
pub record GivenBack (message : List ℕ) (ps : List Packet) : Type 0 where
  pub packets : items message ≡ placed 0 ps
  pub count : count_of message ≡ Ok (length ps)

-- Packets are given back from their symbols, with any number of bytes 00 behind them.
abbrev pub WalksBack : Type 0
WalksBack = (message : List ℕ) (ps : List Packet) → Consists message ps → GivenBack message ps

-- A walk without a fault is a walk over packets: no other message is read to its end.
abbrev pub OnlyPackets : Type 0
OnlyPackets =
    (message : List ℕ) (n : ℕ) → Bytes message → count_of message ≡ Ok n
    → (ps : List Packet) × Consists message ps × (length ps ≡ n)
