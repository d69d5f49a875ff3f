-- The line that tells what receiving a block came to.
use Rattle.std.specs.Prelude.{◌≡◌, ℕ, List, ◌∷◌, ◌++◌, replicate, Some, None, Option, codes, decimal}
use Rattle.tokens.specs.Bytes.{shown_bytes}
use Rattle.reception.specs.Faults.{lane_of, place_of, layer_name}
use Rattle.reception.specs.Reception.{Answer, success, refused, Receives}
use Rattle.reception.specs.declared.fault.Refusal.{Refusal}
use Rattle.reception.specs.declared.fault.Spot.{Spot}
use Rattle.reception.specs.declared.fault.Spot.TheVariants as spot

-- A lane or a place, or `-` for none.
abbrev pub or_dash : Option ℕ → List ℕ
or_dash None = codes "-"
or_dash (Some n) = decimal n

-- The lane that a fault names, or `-`.
abbrev pub shown_lane : Spot → List ℕ
shown_lane s = or_dash (lane_of s)

-- The place that a fault names, or `-`.
abbrev pub shown_place : Spot → List ℕ
shown_place s = or_dash (place_of s)

-- The counts of a success: wrong symbols and packets.
abbrev pub shown_counts : (wrong packets : ℕ) → List ℕ
shown_counts wrong packets = codes "0 - - - wrong=" ++ (decimal wrong ++ (codes " packets=" ++ decimal packets))

-- The number, the layer, and the lane and place of a fault.
abbrev pub shown_refusal : Refusal → List ℕ
shown_refusal f = decimal f.number ++ (32 ∷ (layer_name f.layer ++ (32 ∷ (shown_lane f.spot ++ (32 ∷ shown_place f.spot)))))

-- Beside a fault nothing is counted.
abbrev pub shown_answer : Answer → List ℕ
shown_answer (success wrong packets) = shown_counts wrong packets
shown_answer (refused f) = shown_refusal f ++ codes " wrong=- packets=-"

-- A message with a fault at one of its places is in the buffer; with any other fault the buffer is as before.
abbrev pub shown_buffer : Spot → List ℕ → List ℕ
shown_buffer spot.Nowhere message = codes "asbefore"
shown_buffer (spot.Lane l) message = codes "asbefore"
shown_buffer (spot.Place p) message = shown_bytes message

-- The message in hex, where it has been written.
abbrev pub shown_message : Answer → List ℕ → List ℕ
shown_message (success wrong packets) message = shown_bytes message
shown_message (refused f) message = shown_buffer f.spot message

abbrev pub receive_line : (id : List ℕ) → Answer → (message : List ℕ) → List ℕ
receive_line id a message = codes "receive " ++ (id ++ (codes " = " ++ (shown_answer a ++ (codes " message=" ++ shown_message a message))))

-- The line tells the answer to a block, and the message that is then in a buffer of so many bytes a5.
pub record Told (id : List ℕ) (depth size : ℕ) (block line : List ℕ) : Type 0 where
  pub answer : Answer
  pub message : List ℕ
  pub received : Receives depth block (replicate size 0xa5) answer message
  pub told : line ≡ receive_line id answer message

-- At most one line tells it.
abbrev pub OneLine : Type 0
OneLine =
    (id : List ℕ) (depth size : ℕ) (block line other : List ℕ) → Told id depth size block line → Told id depth size block other → line ≡ other
