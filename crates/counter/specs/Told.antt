-- What is said to a line, and what it makes of the bank that is open.
use Rattle.std.specs.Prelude.{◌≡◌, ℕ, true, false, Ok, Err, ◌⊎◌, List, vec_items, string_bytes}
use Rattle.tokens.specs.declared.fault.Fault.{Fault}
use Rattle.tokens.specs.declared.fault.Fault.TheVariants.{Memory, Shape, Key, Digit, Half, Number, Long, Text}
use Rattle.packet.specs.Items.{items}
use Rattle.accounts.specs.Next.{next_line}
use Rattle.accounts.specs.Receive.{Told}
use Rattle.arrivals.specs.Lines.{written_arrival, NoArrival}
use Rattle.arrivals.specs.declared.arrival.Arrival.{Arrival}
use Rattle.arrivals.specs.declared.arrival.Arrival.TheVariants.{Receive, Next}
use Rattle.calls.specs.Lines.{written_call, NoCall}
use Rattle.calls.specs.declared.call.Call.{Call}
use Rattle.requests.specs.Lines.{written, NoRequest}
use Rattle.requests.specs.declared.requested.Request.{Request}
use Rattle.session.specs.Sessions.{State, Called, After}
use Rattle.session.specs.declared.objection.Objection.{Objection}
use Rattle.desk.specs.Lines.{Answered, refusal}
use Rattle.desk.specs.Said.{passed_over}
use Rattle.counter.specs.Objected.{objected}
use Rattle.desk.specs.declared.reply.Reply.{Reply}
use Rattle.desk.specs.declared.reply.Reply.TheVariants.{Nothing, Answer, Refusal}

-- Of two faults, the first, unless it says that the line has another shape.
abbrev pub told_fault : Fault → Fault → Fault
told_fault Memory other = Memory
told_fault Shape other = other
told_fault Key other = Key
told_fault (Digit at) other = Digit at
told_fault Half other = Half
told_fault Number other = Number
told_fault Long other = Long
told_fault (Text at) other = Text at

-- The reply to a call: its line, or why it is not carried out.
abbrev pub RepliedToCall : ℕ → Call → State → Reply → State → Type 0
RepliedToCall n c before Nothing after = ⊥
RepliedToCall n c before (Answer s) after = Called c before (Ok s) × After c before after
RepliedToCall n c before (Refusal s) after = (o : Objection) × Called c before (Err o) × (string_bytes s ≡ objected n o) × After c before after

-- The line that answers a request about a block or a message that arrived.
abbrev pub Arrived : Arrival → List ℕ → Type 0
Arrived (Receive id depth length block) line = Told (string_bytes id) depth length (vec_items block) line
Arrived (Next id message) line = line ≡ next_line (string_bytes id) (items (vec_items message))

abbrev pub RepliedToArrival : Arrival → Reply → Type 0
RepliedToArrival q Nothing = ⊥
RepliedToArrival q (Answer s) = Arrived q (string_bytes s)
RepliedToArrival q (Refusal s) = ⊥

-- The reply to a line that gave a fault as anything else: the answer to the request that it is, or a fault; it is no request then, unless memory
-- ran out.
abbrev pub RepliedToRequest : ℕ → Fault → List ℕ → Reply → Type 0
RepliedToRequest n fault line Nothing = ⊥
RepliedToRequest n fault line (Answer s) = (q : Request) × (line ≡ written q) × Answered q (string_bytes s)
RepliedToRequest n fault line (Refusal s) =
    (f : Fault) × ((f ≡ Memory) ⊎ NoRequest line) × (string_bytes s ≡ refusal n (told_fault fault f))

-- The reply to a line that gave a fault as a call: the answer about what arrived; or the line asks for none, unless memory ran out.
abbrev pub RepliedToOther : ℕ → Fault → List ℕ → Reply → Type 0
RepliedToOther n fault line reply =
    ((q : Arrival) × (line ≡ written_arrival q) × RepliedToArrival q reply)
    ⊎ ((f : Fault) × ((f ≡ Memory) ⊎ NoArrival line) × RepliedToRequest n (told_fault fault f) line reply)

-- What is said to a line that is not passed over: it is the reply to the call that the line is written as; or the line is no call, unless memory ran out,
-- and nothing changes.
abbrev pub ToldTo : ℕ → List ℕ → State → Reply → State → Type 0
ToldTo n line before reply after =
    ((c : Call) × (line ≡ written_call c) × RepliedToCall n c before reply after)
    ⊎ ((f : Fault) × ((f ≡ Memory) ⊎ NoCall line) × RepliedToOther n f line reply × (after ≡ before))

-- Nothing is said to a line that is passed over.
abbrev pub ToldToLine : ℕ → List ℕ → State → Reply → State → Type 0
ToldToLine n line before Nothing after = (passed_over line ≡ true) × (after ≡ before)
ToldToLine n line before (Answer s) after = (passed_over line ≡ false) × ToldTo n line before (Answer s) after
ToldToLine n line before (Refusal s) after = (passed_over line ≡ false) × ToldTo n line before (Refusal s) after

-- What a line makes of the bank that is open, whether or not memory runs out: nothing, or what the call that it is written as makes of it.
abbrev pub Changed : List ℕ → State → State → Type 0
Changed line before after = (after ≡ before) ⊎ ((c : Call) × (line ≡ written_call c) × After c before after)
