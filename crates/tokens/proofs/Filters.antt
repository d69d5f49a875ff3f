-- What `filter` keeps of a value, by the test that its closure makes.
use Rattle.std.proofs.Common.{◌≡◌, Bool, true, false, cond, Option, None, Some, MatchOption, ap, ◌∙◌}
use Rattle.std.specs.Bool.{then_some}
use Rattle.std.proofs.lemmas.Map.Entries.{option_filter}

module _ {T : Type 0} (test : T → Bool) {Gives : T → Bool → Type 0} (reads : (x : T) (b : Bool) → Gives x b → b ≡ test x) where
  kept : (b : Bool) (x : T) → b ≡ test x → then_some b x ≡ option_filter test (Some x)
  kept true x is = ap (λ t. cond t (Some x) None) is
  kept false x is = ap (λ t. cond t (Some x) None) is

  pub filtered : (found left : Option T) → MatchOption found (left ≡ None) (λ x. (b : Bool) × Gives x b × (left ≡ then_some b x)) → left ≡ option_filter test found
  filtered None left none = none
  filtered (Some x) left (b, gives, is) = is ∙ kept b x (reads x b gives)
