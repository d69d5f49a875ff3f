-- The line that is printed for a line that was read.
use Rattle.std.specs.Prelude.{◌≡◌, ℕ, List, ◌++◌, vec_items, string_bytes, codes, decimal}
use Rattle.power_form.specs.PowerForm.{power_ops}
use Rattle.dual_form.specs.DualForm.{dual_ops}
use Rattle.exponent_form.specs.ExponentForm.{logarithm_ops}
use Rattle.block.specs.Verdicts.{Answer, checked, refused, shown_found, check_of}
use Rattle.tokens.specs.Faults.{shown_fault}
use Rattle.spelling.specs.Kinds.{power_text, dual_text, logarithm_text}
use Rattle.tokens.specs.declared.fault.Fault.{Fault}
use Rattle.requests.specs.declared.requested.Request.{Request}
use Rattle.requests.specs.declared.requested.Request.TheVariants.{Check, AtPower, AtDual, AtExponent}
use Rattle.desk.specs.Replies.{Replied}

-- A check's answer as text: 0 and what was found, or the number of the refusal.
abbrev pub shown_answer : Answer → List ℕ
shown_answer (checked f) = codes "0 " ++ shown_found f
shown_answer (refused n) = decimal n ++ codes " -"

-- The line that answers a check.
abbrev pub check_line : List ℕ → Answer → List ℕ
check_line id a = codes "check " ++ (id ++ (codes " = " ++ shown_answer a))

-- The line that answers a request.
abbrev pub Answered : Request → List ℕ → Type 0
Answered (Check id depth block) line = line ≡ check_line (string_bytes id) (check_of (vec_items block) depth)
Answered (AtPower q) line = Replied power_ops power_text q line
Answered (AtDual q) line = Replied dual_ops dual_text q line
Answered (AtExponent q) line = Replied logarithm_ops logarithm_text q line

-- The line that tells that the line with the number n is refused, and why.
abbrev pub refused_line : ℕ → List ℕ → List ℕ
refused_line n why = codes "line " ++ (decimal n ++ (codes " refused: " ++ why))

-- The line that tells why the line with the number n is no request.
abbrev pub refusal : ℕ → Fault → List ℕ
refusal n f = refused_line n (shown_fault f)
