-- What a check of a block answers.
use Rattle.std.specs.Prelude.{◌≡◌, ℕ, zero, suc, ◌+◌, ◌<◌, ◌≤◌, Bool, true, cond, not, List, ◌++◌, length, Some, None, Ok, Err, codes, decimal, Option, Result, ◌==◌}
use Rattle.field.specs.First.{first_of}
use Rattle.field.specs.Polynomial.{value}
use Rattle.code.specs.Code.{telemetry, gamma_power, Codeword}
use Rattle.dual_form.specs.DualForm.{dual_ops}
use Rattle.dual_form.specs.declared.element.Dual.{Dual}
use Rattle.block.specs.Depths.{is_depth, block_length}
use Rattle.block.specs.Lanes.{word}
use Rattle.block.specs.declared.depth.Block.{Block}
use Rattle.block.specs.declared.depth.Depth.{Depth}
use Rattle.block.specs.declared.fault.BlockFault.{BlockFault}
use Rattle.block.specs.declared.fault.BlockFault.TheVariants.{NoDepth, BlockLength}
use Rattle.block.specs.declared.fault.Verdict.{Verdict}
use Rattle.block.specs.declared.fault.Verdict.TheVariants.{Codewords, Broken}

-- The number of each refusal.
abbrev pub number : BlockFault → ℕ
number NoDepth = 13
number BlockLength = 14

-- What is found: every sum is zero, or the first that is not, by lane and power of γ.
pub data Found : Type 0 where
  all_zero : Found
  broken : (lane root : ℕ) → Found

-- The answer of a check: what is found, or the number of a refusal.
pub data Answer : Type 0 where
  checked : Found → Answer
  refused : ℕ → Answer

abbrev pub found : Verdict → Found
found Codewords = all_zero
found (Broken l j) = broken l j

abbrev pub answer : Result Verdict BlockFault → Answer
answer (Ok v) = checked (found v)
answer (Err f) = refused (number f)

-- What is found, as text: that all is zero, or the lane and the power of γ.
abbrev pub shown_found : Found → List ℕ
shown_found all_zero = codes "all"
shown_found (broken l j) = decimal l ++ (codes " " ++ decimal j)

-- The number of lanes, or the number of a refusal.
pub data Told : Type 0 where
  lanes_are : ℕ → Told
  lanes_refused : ℕ → Told

abbrev pub lanes_told : Result Depth BlockFault → Told
lanes_told (Ok d) = lanes_are d.lanes
lanes_told (Err f) = lanes_refused (number f)

abbrev pub lanes_of : ℕ → Told
lanes_of d = cond (is_depth d) (lanes_are d) (lanes_refused (number NoDepth))

-- The bytes and the number of lanes of a block, or why there is none.
pub data BlockTold : Type 0 where
  block_is : (bytes : List ℕ) (lanes : ℕ) → BlockTold
  block_refused : BlockFault → BlockTold

abbrev pub block_told : Result Block BlockFault → BlockTold
block_told (Ok b) = block_is b.bytes.now b.depth.lanes
block_told (Err f) = block_refused f

-- First the depth, then the length.
abbrev pub block_of : List ℕ → ℕ → BlockTold
block_of bytes d = cond (is_depth d) (cond (length bytes == block_length d) (block_is bytes d) (block_refused BlockLength)) (block_refused NoDepth)

-- The sum of the lane l at γ^j.
unfoldable pub sum_at : ℕ → List ℕ → ℕ → ℕ → Dual
sum_at d block l j = value dual_ops (word d block l) (gamma_power dual_ops telemetry j)

-- That sum is not zero.
abbrev pub is_broken : ℕ → List ℕ → ℕ → ℕ → Bool
is_broken d block l j = not (dual_ops.same (sum_at d block l j) dual_ops.nought)

-- The first power of γ among the roots at which the lane l is broken.
abbrev pub broken_root : ℕ → List ℕ → ℕ → Option ℕ
broken_root d block l = first_of (is_broken d block l) telemetry.checks telemetry.first

abbrev pub broken_or : ℕ → Option ℕ → Found → Found
broken_or l None rest = rest
broken_or l (Some j) rest = broken l j

-- The first broken lane of the k lanes from l on, with its root.
unfoldable pub first_broken : ℕ → List ℕ → ℕ → ℕ → Found
first_broken d block zero l = all_zero
first_broken d block (suc k) l = broken_or l (broken_root d block l) (first_broken d block k (suc l))

-- The check: first the depth, then the length, then the sums.
abbrev pub check_of : List ℕ → ℕ → Answer
check_of block d =
    cond (is_depth d) (cond (length block == block_length d) (checked (first_broken d block d 0)) (refused (number BlockLength))) (refused (number NoDepth))

-- A block of this depth whose lanes are codewords.
pub record Sound (block : List ℕ) (d : ℕ) : Type 0 where
  pub depth : is_depth d ≡ true
  pub long : length block ≡ block_length d
  pub lanes : (l : ℕ) → l < d → Codeword dual_ops telemetry (word d block l)

-- The sum of the lane l at γ^j is not zero, and every sum before it, lanes first, is.
pub record First (block : List ℕ) (d l j : ℕ) : Type 0 where
  pub lane : l < d
  pub root : (telemetry.first ≤ j) × (j < telemetry.first + telemetry.checks)
  pub not_zero : sum_at d block l j ≡ dual_ops.nought → ⊥
  pub lanes_before : (k : ℕ) → k < l → Codeword dual_ops telemetry (word d block k)
  pub roots_before : (i : ℕ) → telemetry.first ≤ i → i < j → sum_at d block l i ≡ dual_ops.nought

-- The answer says that all is zero exactly where each lane is a codeword, and names a lane and a root only where they are the first.
pub record Accepts (block : List ℕ) (d : ℕ) (a : Answer) : Type 0 where
  pub only_codewords : a ≡ checked all_zero → Sound block d
  pub every_codeword : Sound block d → a ≡ checked all_zero
  pub names_first : (l j : ℕ) → a ≡ checked (broken l j) → First block d l j
