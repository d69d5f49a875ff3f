-- What holds of the lanes of every bank.
use Rattle.std.specs.Prelude.{◌≡◌, ℕ, ◌<◌, false, List, [], map, length, slice_index_or}
use Rattle.polynomial.specs.Coefficients.{shift}
use Rattle.dual_form.specs.DualForm.{symbol, dual_ops}
use Rattle.code.specs.Code.{telemetry, of_symbols}
use Rattle.generator.specs.Claims.{Leaves}
use Rattle.divider.specs.Registers.{registers}
use Rattle.bank.specs.Lanes.{Lanes, Shaped, lane_there, place_there, all_cleared, fed, all_fed, placed}

-- A refused call leaves all as it was.
pub record Refused (ls : Lanes) : Type 0 where
  pub take : (lane byte : ℕ) → lane_there ls lane ≡ false → fed ls lane byte ≡ ls
  pub set : Shaped ls → (lane place byte : ℕ) → place_there ls lane place ≡ false → placed ls lane place byte ≡ ls

-- The registers of a lane that took bytes since all were cleared are the divider's registers: the remainder of x^32 times the
-- polynomial of the symbols.
pub record Fed (ls : Lanes) : Type 0 where
  pub registers_held : (lane : ℕ) (bytes : List ℕ) → lane < length ls
      → slice_index_or (all_fed (all_cleared ls) lane bytes) lane [] ≡ registers dual_ops telemetry (map symbol bytes)
  pub remainder : (lane : ℕ) (bytes : List ℕ) → lane < length ls
      → Leaves dual_ops telemetry (shift dual_ops 32 (of_symbols (map symbol bytes))) (slice_index_or (all_fed (all_cleared ls) lane bytes) lane [])

pub record Banks : Type 0 where
  pub refused : (ls : Lanes) → Refused ls
  pub fed_lanes : (ls : Lanes) → Fed ls
