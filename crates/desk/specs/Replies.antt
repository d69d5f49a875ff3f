-- The lines that answer questions about elements of any kind.
use Rattle.std.specs.Prelude.{◌≡◌, ℕ, Bool, true, false, List, ◌∷◌, ◌++◌, Some, None, vec_items, codes, decimal, Option}
use Rattle.field.specs.Field.{Ops}
use Rattle.field.specs.Polynomial.{value, first_root}
use Rattle.polynomial.specs.Division.{Divided}
use Rattle.requests.specs.declared.request.Question.{Question}
use Rattle.requests.specs.declared.request.Question.TheVariants.{Constants, Operate, Evaluate, Divide, Root}
use Rattle.spelling.specs.Lists.{written_list}

-- A text and a word behind it, with a blank between.
abbrev pub ◌and◌ : List ℕ → List ℕ → List ℕ
text and word = text ++ (32 ∷ word)

infixl 40 ◌and◌
-- What stands in an option, written, or the word none.
abbrev pub or_none : {A : Type 0} → (A → List ℕ) → Option A → List ℕ
or_none w None = codes "none"
or_none w (Some x) = w x

-- 1 for yes and 0 for no.
abbrev pub yes_or_no : Bool → List ℕ
yes_or_no true = codes "1"
yes_or_no false = codes "0"

module _ {F : Type 0} (o : Ops F) (written : F → List ℕ) where
  abbrev pub constants_line : List ℕ
  constants_line = codes "const =" and written o.nought and written o.unit and written o.alpha

  abbrev pub operate_line : F → F → List ℕ
  operate_line a b =
      codes "op =" and written (o.sum a b) and written (o.product a b) and or_none written (o.reciprocal a) and yes_or_no (o.same a b)

  abbrev pub value_line : List F → F → List ℕ
  value_line cs x = codes "eval =" and written (value o cs x)

  abbrev pub root_line : List F → ℕ → List ℕ
  root_line cs n = codes "root =" and or_none decimal (first_root o cs n)

  -- The line tells what division leaves.
  pub record DividedLine (before by : List F) (line : List ℕ) : Type 0 where
    pub after : List F
    pub answer : Option (Unit {0})
    pub divided : Divided o before by after answer
    pub told : line ≡ codes "div =" and or_none (λ _. written_list written after) answer

  -- The line that answers a question.
  abbrev pub Replied : Question F → List ℕ → Type 0
  Replied Constants line = line ≡ constants_line
  Replied (Operate a b) line = line ≡ operate_line a b
  Replied (Evaluate cs x) line = line ≡ value_line (vec_items cs) x
  Replied (Divide before by) line = DividedLine (vec_items before) (vec_items by) line
  Replied (Root cs n) line = line ≡ root_line (vec_items cs) n
