use Rattle.std.proofs.Common.{◌≤◌, ◌≡◌, length, get_or, nat_le, sym, ◌∙◌, true≢false, arith, rules}
use Rattle.std.proofs.lemmas.Str.Pattern.{starts_char}
use Rattle.tokens.proofs.Decimals.{no_zero_first, up_to}
use Rattle.tokens.proofs.Filters.{filtered}
use Rattle.tokens.proofs.numbers.value_of.Goals as goal
use Rattle.tokens.proofs.numbers.value_of.Goals.{else-text-gt1-via-then-text-gt1+else-starts_with, else-text-gt1-via-else-text-gt1}

pub returns-then-starts_with : goal.returns-then-starts_with
returns-then-starts_with c =
    let zero = starts_char 48 c.args.text.now _ c.starts_with.ensures.cases (omega arith) (omega arith) in
    λ n _. no_zero_first _ (omega arith) (zero.0 c.if-starts_with.true) n

pub returns : goal.returns
returns c =
    let lead : get_or c.args.text.now 0 0 ≡ 48 → length c.args.text.now ≤ 1 =
    λ zero. elim c.else-text-gt1.branch [
      | else-text-gt1-via-then-text-gt1+else-starts_with w ↦ absurd (true≢false (sym ((starts_char 48 c.args.text.now _ w.starts_with.ensures.cases (omega arith) (omega arith)).1 zero) ∙ w.if-starts_with.false))
      | else-text-gt1-via-else-text-gt1 w ↦ omega arith
    ] in
    rw (filtered (λ n. nat_le n c.args.most) (λ x b gives. search rules) _ _ c.filter.ensures, c.ok.ensures.value) (up_to _ _ _ c.parse.ensures.value.0 c.requires lead)
