-- The lines that answer calls on a bank.
use Rattle.std.specs.Prelude.{ℕ, cond, List, [], ◌++◌, map, reverse, length, Ok, Err, codes, decimal, Result, slice_index_or}
use Rattle.dual_form.specs.declared.element.Dual.{Dual}
use Rattle.bank.specs.Lanes.{Lanes, number, answer_if, lane_there, place_there, told}
use Rattle.bank.specs.declared.fault.BankFault.{BankFault}
use Rattle.bank.specs.declared.fault.BankFault.TheVariants.{NoSuchRegister}
use Rattle.tokens.specs.Bytes.{two_digits, spelled}

-- The bytes of registers as they are sent, R_31 first.
unfoldable pub sent : List Dual → List ℕ
sent registers = map (λ x. x.byte) (reverse registers)

-- The number of lanes, and of checks in each.
abbrev pub bank_line : List ℕ → Lanes → List ℕ
bank_line id ls = codes "bank " ++ (id ++ (codes " = " ++ (decimal (length ls) ++ codes " 32")))

abbrev pub take_line : Lanes → ℕ → List ℕ
take_line ls lane = codes "take = " ++ decimal (answer_if (lane_there ls lane))

abbrev pub set_line : Lanes → ℕ → ℕ → List ℕ
set_line ls lane place = codes "set = " ++ decimal (answer_if (place_there ls lane place))

-- 0 and the byte of a register, or the number of the refusal.
abbrev pub shown_register : Result ℕ BankFault → List ℕ
shown_register (Ok b) = codes "0 " ++ two_digits b
shown_register (Err f) = decimal (number f) ++ codes " -"

abbrev pub read_line : Lanes → ℕ → ℕ → List ℕ
read_line ls lane place = codes "read = " ++ shown_register (told ls lane place)

-- All registers of a lane, or the number of the refusal.
abbrev pub regs_line : Lanes → ℕ → List ℕ
regs_line ls lane = codes "regs = " ++ cond (lane_there ls lane) (spelled (sent (slice_index_or ls lane []))) (decimal (number NoSuchRegister) ++ codes " -")
