-- What is printed for lines.
use Rattle.std.specs.Prelude.{◌≡◌, ℕ, ◌+◌, ◌⊎◌, List, [], ◌∷◌, ◌++◌, IsUtf8, string_bytes, codes, decimal, Ok, Err, Result}
use Rattle.std.specs.Str.Lossy.{utf8_valid_len}
use Rattle.tokens.specs.declared.fault.Fault.{Fault}
use Rattle.tokens.specs.declared.fault.Fault.TheVariants.{Text}
use Rattle.lines.specs.Lines.{without_return, read_as}
use Rattle.desk.specs.Lines.{refusal}
use Rattle.desk.specs.declared.reply.Reply.{Reply}
use Rattle.desk.specs.declared.reply.Reply.TheVariants.{Nothing, Answer, Refusal}

-- the last line that is printed
abbrev pub shown_counts : ℕ → ℕ → List ℕ
shown_counts answered refused = decimal answered ++ (codes " requests answered, " ++ (decimal refused ++ codes " lines refused"))

-- a reply as it is printed: on a line of its own, or not at all
abbrev pub printed : Reply → List ℕ
printed Nothing = []
printed (Answer s) = string_bytes s ++ 10 ∷ []
printed (Refusal s) = string_bytes s ++ 10 ∷ []

-- the reply tells that the line with the number n is refused for a fault
abbrev pub Refuses : ℕ → Fault → Reply → Type 0
Refuses n f Nothing = ⊥
Refuses n f (Answer s) = ⊥
Refuses n f (Refusal s) = string_bytes s ≡ refusal n f

-- the text of a line that was read, and why a line has none
abbrev pub HasText : Result (Unit {0}) Fault → List ℕ → List ℕ → Type 0
HasText (Ok u) line text = (text ≡ without_return line) × IsUtf8 text
HasText (Err f) line text = ⊥

abbrev pub HasNoText : Result (Unit {0}) Fault → List ℕ → Fault → Type 0
HasNoText (Ok u) line f = (IsUtf8 (without_return line) → ⊥) × (f ≡ Text (utf8_valid_len (without_return line)))
HasNoText (Err e) line f = f ≡ e

-- how many answers and refusals a reply is
abbrev pub answers : Reply → ℕ
answers Nothing = 0
answers (Answer s) = 1
answers (Refusal s) = 0

abbrev pub refusals : Reply → ℕ
refusals Nothing = 0
refusals (Answer s) = 0
refusals (Refusal s) = 1

module _ {D : Type 0} (Says : D → ℕ → List ℕ → Reply → D → Type 0) where
  -- what is said to a line that was read: what may be said to its text, or why it has none
  abbrev pub SaidTo : D → ℕ → Result (Unit {0}) Fault → List ℕ → Reply → D → Type 0
  SaidTo before n read line reply after =
      ((text : List ℕ) × HasText read line text × Says before n text reply after)
      ⊎ ((f : Fault) × HasNoText read line f × Refuses n f reply × (after ≡ before))

  -- what is printed for lines, of which the first has the number n, and for the counts so far: each line's reply, and then the counts
  abbrev pub Served : List (List ℕ) → ℕ → ℕ → ℕ → D → List ℕ → D → Type 0
  Served [] n answered refused before text after = (text ≡ shown_counts answered refused ++ 10 ∷ []) × (after ≡ before)
  Served (line ∷ lines) n answered refused before text after =
      (reply : Reply) × (kept : D) × (rest : List ℕ) × SaidTo before n (read_as line) line reply kept × (text ≡ printed reply ++ rest)
      × Served lines (n + 1) (answered + answers reply) (refused + refusals reply) kept rest after
