-- The laws of receiving.
use Rattle.std.specs.Prelude.{◌≡◌, ℕ, ◌<◌, ◌≤◌, true, List, map, length, take}
use Rattle.polynomial.specs.Words.{distance}
use Rattle.code.specs.Code.{telemetry}
use Rattle.dual_form.specs.DualForm.{symbol, dual_ops}
use Rattle.dual_form.specs.declared.element.Dual.{Dual}
use Rattle.locator.specs.Correction.{Near}
use Rattle.block.specs.Depths.{is_depth, block_length}
use Rattle.block.specs.Lanes.{word}
use Rattle.block.specs.Verdicts.{checked, all_zero, check_of, Sound}
use Rattle.packet.specs.Packets.{Packet, Bytes}
use Rattle.packet.specs.Items.{items, count_of, placed}
use Rattle.packet.specs.Laws.{Consists}
use Rattle.reception.specs.Messages.{message_length, message_of}
use Rattle.reception.specs.Reception.{Answer, success, walked, Corrected, Receives}

-- At most one codeword of the (255,223) code differs from a word in at most 16 symbols.
abbrev pub OneCodeword : Type 0
OneCodeword = (received v w : List Dual) → Near dual_ops telemetry received v → Near dual_ops telemetry received w → v ≡ w

-- At most one answer and one message are right.
abbrev pub OneAnswer : Type 0
OneAnswer =
    (d : ℕ) (block before : List ℕ) (a a' : Answer) (message message' : List ℕ)
    → Receives d block before a message → Receives d block before a' message' → (a ≡ a') × (message ≡ message')

-- The number of symbols in which two blocks differ.
abbrev pub altered : List ℕ → List ℕ → ℕ
altered block sent = distance dual_ops (map symbol block) (map symbol sent)

-- A block of codewords was sent, and the block differs from it in at most 16 symbols of each lane.
pub record Damaged (d : ℕ) (sent block : List ℕ) : Type 0 where
  pub sound : Sound sent d
  pub bytes : Bytes sent
  pub long : length block ≡ block_length d
  pub few : (l : ℕ) → l < d → distance dual_ops (word d block l) (word d sent l) ≤ 16

-- What is answered to it: the number of altered symbols and the walk over the message that was sent, which is given back.
pub record Restored (d : ℕ) (sent block before : List ℕ) : Type 0 where
  pub some : Receives d block before (walked (altered block sent) (count_of (take (message_length d) sent))) (take (message_length d) sent)
  pub same_answer : (a : Answer) (message : List ℕ) → Receives d block before a message → a ≡ walked (altered block sent) (count_of (take (message_length d) sent))
  pub same_message : (a : Answer) (message : List ℕ) → Receives d block before a message → message ≡ take (message_length d) sent
  -- where that consists of packets, it is a success with their number, and the walk over the message gives them back
  pub packets : (ps : List Packet) → Consists (take (message_length d) sent) ps → (a : Answer) (message : List ℕ) → Receives d block before a message
      → (a ≡ success (altered block sent) (length ps)) × (items message ≡ placed 0 ps)

-- Damage of at most 16 symbols in each lane is undone.
abbrev pub Restores : Type 0
Restores = (d : ℕ) (sent block before : List ℕ) → Damaged d sent block → length before ≡ message_length d → Restored d sent block before

-- A block that a check accepts, and one in which no symbol is found to be wrong.
pub record Agrees (d : ℕ) (block : List ℕ) : Type 0 where
  -- the check accepts: each lane is its own codeword, so no symbol is wrong
  pub near_itself : check_of block d ≡ checked all_zero → (l : ℕ) → l < d → Near dual_ops telemetry (word d block l) (word d block l)
  pub none_wrong : check_of block d ≡ checked all_zero → Corrected d block 0 (message_of d (word d block))
  -- no symbol is wrong: the check accepts, and the codewords are the lanes themselves
  pub accepted : is_depth d ≡ true → length block ≡ block_length d → (message : List ℕ) → Corrected d block 0 message → check_of block d ≡ checked all_zero
  pub same_lanes : (message : List ℕ) (c : Corrected d block 0 message) (l : ℕ) → l < d → c.words l ≡ word d block l
  -- so a success says that no symbol was wrong exactly where the check accepts
  pub success_accepted : (before message : List ℕ) (packets : ℕ) → Receives d block before (success 0 packets) message → check_of block d ≡ checked all_zero
  pub accepted_success : check_of block d ≡ checked all_zero → (before message : List ℕ) (wrong packets : ℕ) → Receives d block before (success wrong packets) message → wrong ≡ 0

abbrev pub CheckAgrees : Type 0
CheckAgrees = (d : ℕ) (block : List ℕ) → Agrees d block
