-- What is said to a line.
use Rattle.std.specs.Prelude.{◌≡◌, ℕ, Bool, true, false, ◌⊎◌, List, [], ◌∷◌, string_bytes, ◌==◌}
use Rattle.tokens.specs.declared.fault.Fault.{Fault}
use Rattle.tokens.specs.declared.fault.Fault.TheVariants.{Memory}
use Rattle.requests.specs.Lines.{written, NoRequest}
use Rattle.requests.specs.declared.requested.Request.{Request}
use Rattle.desk.specs.Lines.{Answered, refusal}
use Rattle.desk.specs.declared.reply.Reply.{Reply}
use Rattle.desk.specs.declared.reply.Reply.TheVariants.{Nothing, Answer, Refusal}

-- An empty line, or one that begins with #, is passed over.
abbrev pub passed_over : List ℕ → Bool
passed_over [] = true
passed_over (b ∷ bs) = b == 35

-- Nothing is said to a line that is passed over. An answer is that of the request that the line is written as. A refusal names the
-- line and a fault, and the line is no request, unless memory ran out.
abbrev pub Said : ℕ → List ℕ → Reply → Type 0
Said n line Nothing = passed_over line ≡ true
Said n line (Answer s) = (passed_over line ≡ false) × ((q : Request) × (line ≡ written q) × Answered q (string_bytes s))
Said n line (Refusal s) = (passed_over line ≡ false) × ((f : Fault) × ((f ≡ Memory) ⊎ NoRequest line) × (string_bytes s ≡ refusal n f))
