-- What a bank means, its lanes of registers in dual form, and what each call answers and makes of them.
use Rattle.std.specs.Prelude.{◌≡◌, ℕ, ◌<◌, ◌≤◌, Bool, cond, ◌&&◌, List, [], ◌++◌, map, length, take, Ok, Err, Result, nat_lt, slice_index_or, slice_set}
use Rattle.polynomial.specs.Coefficients.{coeff}
use Rattle.dual_form.specs.DualForm.{symbol, dual_ops}
use Rattle.dual_form.specs.declared.element.Dual.{Dual}
use Rattle.code.specs.Code.{telemetry}
use Rattle.generator.specs.Generator.{generator}
use Rattle.divider.specs.Registers.{cleared, taken, all_taken}
use Rattle.bank.specs.declared.fault.BankFault.{BankFault}
use Rattle.bank.specs.declared.fault.BankFault.TheVariants.{NoSuchRegister}

-- The registers of each lane, R_0 first.
abbrev pub Lanes : Type 0
Lanes = List (List Dual)

-- 1 to 8 lanes of 32 registers.
pub record Shaped (ls : Lanes) : Type 0 where
  pub some : 1 ≤ length ls
  pub few : length ls ≤ 8
  pub wide : (k : ℕ) → k < length ls → length (slice_index_or ls k []) ≡ 32

-- The number of each refusal.
abbrev pub number : BankFault → ℕ
number NoSuchRegister = 2

-- The number of an answer: 0, or that of a refusal.
abbrev pub answer : {T : Type 0} → Result T BankFault → ℕ
answer (Ok x) = 0
answer (Err f) = number f

-- The number of the answer to a call for a register that is there, or is not.
abbrev pub answer_if : Bool → ℕ
answer_if there = cond there 0 (number NoSuchRegister)

-- There is such a lane.
abbrev pub lane_there : Lanes → ℕ → Bool
lane_there ls lane = nat_lt lane (length ls)

-- There is such a lane, and such a place in it.
abbrev pub place_there : Lanes → ℕ → ℕ → Bool
place_there ls lane place = nat_lt lane (length ls) && nat_lt place 32

-- A lane whose registers are zero.
unfoldable pub zeros : List Dual
zeros = cleared dual_ops telemetry

-- All registers zero.
abbrev pub all_cleared : Lanes → Lanes
all_cleared ls = map (λ _. zeros) ls

-- The registers of a lane after the symbol with this byte is taken.
unfoldable pub stepped : List Dual → ℕ → List Dual
stepped rs byte = taken dual_ops (generator dual_ops telemetry) rs (symbol byte)

-- The registers of a lane after the symbols with these bytes are taken in their order.
unfoldable pub all_stepped : List Dual → List ℕ → List Dual
all_stepped rs bytes = all_taken dual_ops (generator dual_ops telemetry) rs (map symbol bytes)

-- The lanes after one takes a byte; as they were where there is no such lane.
abbrev pub fed : Lanes → ℕ → ℕ → Lanes
fed ls lane byte = slice_set ls lane (stepped (slice_index_or ls lane []) byte)

-- The lanes after one takes bytes in their order; as they were where there is no such lane.
abbrev pub all_fed : Lanes → ℕ → List ℕ → Lanes
all_fed ls lane bytes = slice_set ls lane (all_stepped (slice_index_or ls lane []) bytes)

-- The lanes after a byte is put into one register; as they were where there is no such register.
abbrev pub placed : Lanes → ℕ → ℕ → ℕ → Lanes
placed ls lane place byte = slice_set ls lane (slice_set (slice_index_or ls lane []) place (symbol byte))

-- The byte of a register.
abbrev pub at : Lanes → ℕ → ℕ → ℕ
at ls lane place = (coeff dual_ops (slice_index_or ls lane []) place).byte

-- What a question for a register is told.
abbrev pub told : Lanes → ℕ → ℕ → Result ℕ BankFault
told ls lane place = cond (place_there ls lane place) (Ok (at ls lane place)) (Err NoSuchRegister)

-- What a question for all registers of a lane is told: their bytes.
abbrev pub told_all : Lanes → ℕ → Result (List ℕ) BankFault
told_all ls lane = cond (lane_there ls lane) (Ok (map (λ x. x.byte) (slice_index_or ls lane []))) (Err NoSuchRegister)

-- The lanes of two banks, the left one's first, of which the first 8 count.
unfoldable pub beside : Lanes → Lanes → Lanes
beside left right = take 8 (left ++ right)

-- The elements of a copy's bytes.
unfoldable pub elements : List (List ℕ) → Lanes
elements copy = map (map symbol) copy

-- The copy beside lanes: as many lanes of the copy as there are.
unfoldable pub held : Lanes → List (List ℕ) → Lanes
held ls copy = take (length ls) (elements copy)
