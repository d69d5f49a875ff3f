-- What receiving a block may answer, and what it leaves in the message buffer. How a codeword is found is not said.
use Rattle.std.specs.Prelude.{◌≡◌, ℕ, ◌<◌, Bool, true, false, ◌⊎◌, List, length, Some, None, Ok, Err, Option, Result, ◌==◌}
use Rattle.polynomial.specs.Words.{distance}
use Rattle.code.specs.Code.{telemetry}
use Rattle.dual_form.specs.DualForm.{dual_ops}
use Rattle.dual_form.specs.declared.element.Dual.{Dual}
use Rattle.locator.specs.Correction.{Near}
use Rattle.block.specs.Depths.{is_depth, block_length}
use Rattle.block.specs.Lanes.{word}
use Rattle.block.specs.declared.fault.BlockFault.TheVariants.{NoDepth, BlockLength}
use Rattle.packet.specs.Items.{count_of}
use Rattle.packet.specs.declared.fault.PacketFault.{PacketFault}
use Rattle.reception.specs.Faults.{refusal_of}
use Rattle.reception.specs.Messages.{message_length, message_of, total}
use Rattle.reception.specs.declared.fault.ReceiveFault.{ReceiveFault}
use Rattle.reception.specs.declared.fault.ReceiveFault.TheVariants.{Block, MessageLength, Lane, Packets}
use Rattle.reception.specs.declared.fault.Refusal.{Refusal}

-- The two counts of a success, wrong symbols and packets, or what the fault is told as.
pub data Answer : Type 0 where
  success : (wrong packets : ℕ) → Answer
  refused : Refusal → Answer

abbrev pub answer : Result (ℕ × ℕ) ReceiveFault → Answer
answer (Ok counts) = success counts.0 counts.1
answer (Err f) = refused (refusal_of f)

-- The first fault, unless the test holds; otherwise what is found behind it.
abbrev pub unless : Bool → ReceiveFault → Option ReceiveFault → Option ReceiveFault
unless true f rest = rest
unless false f rest = Some f

-- The fault of the arguments: first the depth, then the length of the block, then that of the message buffer.
abbrev pub argument_fault : ℕ → List ℕ → List ℕ → Option ReceiveFault
argument_fault d block message =
    unless (is_depth d) (Block NoDepth)
    (unless (length block == block_length d) (Block BlockLength)
    (unless (length message == message_length d) MessageLength None))

-- Each lane has a codeword near enough, its word here; `wrong` is the number of symbols in which these differ from the block, and the
-- message is theirs.
pub record Corrected (d : ℕ) (block : List ℕ) (wrong : ℕ) (message : List ℕ) : Type 0 where
  pub words : ℕ → List Dual
  pub near : (l : ℕ) → l < d → Near dual_ops telemetry (word d block l) (words l)
  pub counted : wrong ≡ total d (λ l. distance dual_ops (word d block l) (words l))
  pub written : message ≡ message_of d words

-- l is the lowest lane that no codeword is near enough to.
pub record Lost (d : ℕ) (block : List ℕ) (l : ℕ) : Type 0 where
  pub inside : l < d
  pub none : (w : List Dual) → Near dual_ops telemetry (word d block l) w → ⊥
  pub lowest : (k : ℕ) → k < l → (w : List Dual) × Near dual_ops telemetry (word d block k) w

-- The answer once the lanes are corrected: what the walk over the message comes to.
abbrev pub walked : ℕ → Result ℕ PacketFault → Answer
walked wrong (Ok packets) = success wrong packets
walked wrong (Err f) = refused (refusal_of (Packets f))

-- Every lane is corrected: the message is written, and its packets are counted.
pub record Read (d : ℕ) (block : List ℕ) (a : Answer) (message : List ℕ) : Type 0 where
  pub wrong : ℕ
  pub corrected : Corrected d block wrong message
  pub answered : a ≡ walked wrong (count_of message)

-- A lane is lost: the lowest is named, and the message buffer is as before.
pub record Unread (d : ℕ) (block before : List ℕ) (a : Answer) (message : List ℕ) : Type 0 where
  pub lane : ℕ
  pub lost : Lost d block lane
  pub answered : a ≡ refused (refusal_of (Lane (record { lane = lane })))
  pub kept : message ≡ before

-- The answer and the message where the arguments have this fault, or none.
abbrev pub Received : Option ReceiveFault → ℕ → List ℕ → List ℕ → Answer → List ℕ → Type 0
Received (Some f) d block before a message = (a ≡ refused (refusal_of f)) × (message ≡ before)
Received None d block before a message = Read d block a message ⊎ Unread d block before a message

-- The answer to a block of depth d, and what the message buffer holds then; before, it held `before`.
abbrev pub Receives : (d : ℕ) (block before : List ℕ) (a : Answer) (message : List ℕ) → Type 0
Receives d block before a message = Received (argument_fault d block before) d block before a message
