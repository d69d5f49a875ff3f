-- What is found in the lanes of a block, and what is written of it, lane by lane.
use Rattle.std.specs.Prelude.{◌≡◌, ℕ, ◌+◌, ◌-◌, ◌*◌, ◌<◌, ◌≤◌, List, Ok, Err, Result, ◌≢◌, slice_index}
use Rattle.polynomial.specs.Coefficients.{coeff}
use Rattle.polynomial.specs.Words.{distance}
use Rattle.code.specs.Code.{telemetry}
use Rattle.dual_form.specs.DualForm.{dual_ops}
use Rattle.dual_form.specs.declared.element.Dual.{Dual}
use Rattle.locator.specs.Correction.{Near}
use Rattle.correction.specs.Correcting.{Far}
use Rattle.block.specs.Lanes.{word}
use Rattle.reception.specs.Messages.{total}
use Rattle.reception.specs.Reception.{Corrected, Lost}
use Rattle.reception.specs.declared.fault.LaneFault.{LaneFault}

-- The message symbols of a word stand in the lane l of a message of depth d.
abbrev pub Stands : ℕ → ℕ → List Dual → List ℕ → Type 0
Stands d l w message = (i : ℕ) → i < 223 → slice_index message (i * d + l) ≡ (coeff dual_ops w (254 - i)).byte

-- Every other lane of the message is as it was.
abbrev pub OthersKept : ℕ → ℕ → List ℕ → List ℕ → Type 0
OthersKept d l before after = (i k : ℕ) → i < 223 → k < d → (k ≢ l) → slice_index after (i * d + k) ≡ slice_index before (i * d + k)

-- The first n lanes have their codewords, which differ from the block in so many symbols and stand in the message.
pub record LanesRead (d : ℕ) (block : List ℕ) (n wrong : ℕ) (message : List ℕ) : Type 0 where
  pub words : ℕ → List Dual
  pub near : (l : ℕ) → l < n → Near dual_ops telemetry (word d block l) (words l)
  pub counted : wrong ≡ total n (λ l. distance dual_ops (word d block l) (words l))
  pub stand : (l : ℕ) → l < n → Stands d l (words l) message

-- The lane l is read too, where the lanes before it are; n more symbols are wrong.
pub record LaneRead (d : ℕ) (block : List ℕ) (l n : ℕ) (before after : List ℕ) : Type 0 where
  pub few : n ≤ 16
  pub more : (wrong : ℕ) → LanesRead d block l wrong before → LanesRead d block (l + 1) (wrong + n) after

-- What is answered to one lane, and what becomes of the message.
abbrev pub LaneTold : ℕ → List ℕ → ℕ → List ℕ → List ℕ → Result ℕ LaneFault → Type 0
LaneTold d block l before after (Ok n) = LaneRead d block l n before after
LaneTold d block l before after (Err f) = (f.lane ≡ l) × Far dual_ops telemetry (word d block l)

-- What is answered to all lanes, and what the message holds then.
abbrev pub LanesTold : ℕ → List ℕ → List ℕ → Result ℕ LaneFault → Type 0
LanesTold d block message (Ok wrong) = Corrected d block wrong message
LanesTold d block message (Err f) = Lost d block f.lane

-- The same where the message is written only once every lane has its codeword.
abbrev pub Written : ℕ → List ℕ → List ℕ → List ℕ → Result ℕ LaneFault → Type 0
Written d block before after (Ok wrong) = Corrected d block wrong after
Written d block before after (Err f) = Lost d block f.lane × (after ≡ before)
