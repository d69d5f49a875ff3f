use Rattle.std.proofs.Common.{◌≡◌, ◌+◌, ◌++◌, ◌∷◌, None, string_bytes, ap, ◌∙◌, arith, rules}
use Rattle.std.proofs.lemmas.List.{take_all}
use Rattle.generator.specs.Text.{shown, joined}
use Rattle.generator.proofs.Lines.{joined_first, joined_more, line_none, read_others, length_others}
use Rattle.generator.proofs.exponents.line.Goals as goal

pub returns-in_default : goal.returns-in_default
returns-in_default c = rw (line_none c.args.exponents.now c.in_default.len_below) (search rules)

pub loop-exponent-init : goal.loop-exponent-init
loop-exponent-init c = c.in_ok-text.ensures ∙ joined_first c.args.exponents.now None (omega arith)

pub loop-exponent-preserved : goal.loop-exponent-preserved
loop-exponent-preserved c =
    let ns = c.args.exponents.now in
    let i = c.loop-exponent.exponent-index in
    c.in_ok-text-2.ensures.ok
    ∙ ap (λ t. string_bytes c.loop-exponent.text ++ 32 ∷ t) (c.in_ok-next.ensures ∙ ap shown (read_others ns i None c.loop-exponent-test.true))
    ∙ joined_more ns (i + 1) None (string_bytes c.loop-exponent.text) (omega arith) (omega (arith, length_others ns)) c.loop-exponent.invariant

pub returns : goal.returns
returns c =
    let ns = c.args.exponents.now in
    let all : string_bytes c.loop-exponent.text ≡ joined ns =
    c.loop-exponent.invariant ∙ ap joined (take_all (c.loop-exponent.exponent-index + 1) ns (omega (arith, length_others ns))) in
    rw (← all) (search rules)
