-- What a call in a session answers, and what it makes of the session.
use Rattle.std.specs.Prelude.{◌≡◌, ℕ, Bool, cond, ◌⊎◌, List, [], Some, None, Ok, Err, Result, String, Option, option_map, string_bytes, codes}
use Rattle.std.specs.Global.{Global}
use Rattle.bank.specs.Lanes.{Lanes, all_cleared, fed, placed}
use Rattle.bench.specs.Lines.{bank_line, take_line, set_line, read_line, regs_line}
use Rattle.calls.specs.declared.call.Call.{Call}
use Rattle.calls.specs.declared.call.Call.TheVariants.{Bank, Take, Read, Set, Clear, Hold, Restore, Regs, End}
use Rattle.lineup.specs.Built.{deepest, built_lanes, built_copy, NoBank}
use Rattle.lineup.specs.declared.built.Built.{Built}
use Rattle.lineup.specs.Plans.{Plan, plan_text, Within, lanes_of, is_holder}
use Rattle.session.specs.declared.bank_session.Session.{Session}
use Rattle.session.specs.declared.objection.Objection.{Objection}
use Rattle.session.specs.declared.objection.Objection.TheVariants.{NoSuchBank, BankIsOpen, NoBankIsOpen, NoCopy}

-- What becomes of a call: a line that answers it, or why it is not carried out.
abbrev pub Outcome : Type 0
Outcome = Result (String Global) Objection

-- A bank that is open: whether it is a holder, its lanes, and the copy beside them.
pub record Open : Type 0 where
  pub holds : Bool
  pub lanes : Lanes
  pub copy : Lanes

abbrev pub open_of : Built → Open
open_of b = record { holds = b.holds; lanes = built_lanes b; copy = built_copy b }

-- A session: the bank that is open in it, if one is.
abbrev pub State : Type 0
State = Option Open

abbrev pub state_of : Session → State
state_of s = option_map open_of s.open

-- The bank with other lanes; with another copy.
abbrev pub with_lanes : Open → Lanes → Open
with_lanes b ls = record { holds = b.holds; lanes = ls; copy = b.copy }

abbrev pub with_copy : Open → Lanes → Open
with_copy b ls = record { holds = b.holds; lanes = b.lanes; copy = ls }

-- The bank of a plan, all registers zero.
abbrev pub opened : Plan → Open
opened p = record { holds = is_holder p; lanes = lanes_of p; copy = all_cleared (lanes_of p) }

-- Why a call on an open bank is not carried out.
abbrev pub objection_to : Call → Open → Option Objection
objection_to (Bank id plan) s = Some BankIsOpen
objection_to (Take lane byte) s = None
objection_to (Read lane place) s = None
objection_to (Set lane place byte) s = None
objection_to Clear s = None
objection_to Hold s = cond s.holds None (Some NoCopy)
objection_to Restore s = cond s.holds None (Some NoCopy)
objection_to (Regs lane) s = None
objection_to End s = None

-- The line that answers a call on an open bank.
abbrev pub call_line : Call → Open → List ℕ
call_line (Bank id plan) s = []
call_line (Take lane byte) s = take_line s.lanes lane
call_line (Read lane place) s = read_line s.lanes lane place
call_line (Set lane place byte) s = set_line s.lanes lane place
call_line Clear s = codes "clear"
call_line Hold s = codes "hold"
call_line Restore s = codes "restore"
call_line (Regs lane) s = regs_line s.lanes lane
call_line End s = codes "end"

-- What a call makes of an open bank.
abbrev pub after_call : Call → Open → State
after_call (Bank id plan) s = Some s
after_call (Take lane byte) s = Some (with_lanes s (fed s.lanes lane byte))
after_call (Read lane place) s = Some s
after_call (Set lane place byte) s = Some (with_lanes s (placed s.lanes lane place byte))
after_call Clear s = Some (with_lanes s (all_cleared s.lanes))
after_call Hold s = Some (cond s.holds (with_copy s s.lanes) s)
after_call Restore s = Some (cond s.holds (with_lanes s s.copy) s)
after_call (Regs lane) s = Some s
after_call End s = None

-- The outcome of a call on an open bank.
abbrev pub OpenOutcome : Call → Open → Outcome → Type 0
OpenOutcome c s (Ok text) = (objection_to c s ≡ None) × (string_bytes text ≡ call_line c s)
OpenOutcome c s (Err f) = objection_to c s ≡ Some f

-- The outcome of a call for a bank while none is open.
abbrev pub OpeningOutcome : List ℕ → List ℕ → Outcome → Type 0
OpeningOutcome id text (Ok line) = (p : Plan) × Within deepest p × (text ≡ plan_text p) × (string_bytes line ≡ bank_line id (lanes_of p))
OpeningOutcome id text (Err f) = NoBank text × (f ≡ NoSuchBank)

-- What it makes of the session: the bank of the plan that the text is the text of; as before where it is that of none.
abbrev pub AfterOpening : List ℕ → State → State → Type 0
AfterOpening text before after =
    ((p : Plan) × Within deepest p × (text ≡ plan_text p) × (after ≡ Some (opened p))) ⊎ (NoBank text × (after ≡ before))

-- The outcome of a call while no bank is open.
abbrev pub ClosedOutcome : Call → Outcome → Type 0
ClosedOutcome (Bank id plan) o = OpeningOutcome (string_bytes id) (string_bytes plan) o
ClosedOutcome (Take lane byte) o = o ≡ Err NoBankIsOpen
ClosedOutcome (Read lane place) o = o ≡ Err NoBankIsOpen
ClosedOutcome (Set lane place byte) o = o ≡ Err NoBankIsOpen
ClosedOutcome Clear o = o ≡ Err NoBankIsOpen
ClosedOutcome Hold o = o ≡ Err NoBankIsOpen
ClosedOutcome Restore o = o ≡ Err NoBankIsOpen
ClosedOutcome (Regs lane) o = o ≡ Err NoBankIsOpen
ClosedOutcome End o = o ≡ Err NoBankIsOpen

abbrev pub AfterClosed : Call → State → State → Type 0
AfterClosed (Bank id plan) before after = AfterOpening (string_bytes plan) before after
AfterClosed (Take lane byte) before after = after ≡ before
AfterClosed (Read lane place) before after = after ≡ before
AfterClosed (Set lane place byte) before after = after ≡ before
AfterClosed Clear before after = after ≡ before
AfterClosed Hold before after = after ≡ before
AfterClosed Restore before after = after ≡ before
AfterClosed (Regs lane) before after = after ≡ before
AfterClosed End before after = after ≡ before

-- The outcome of a call, and what it makes of the session.
abbrev pub Called : Call → State → Outcome → Type 0
Called c (Some s) o = OpenOutcome c s o
Called c None o = ClosedOutcome c o

abbrev pub After : Call → State → State → Type 0
After c (Some s) after = after ≡ after_call c s
After c None after = AfterClosed c None after
