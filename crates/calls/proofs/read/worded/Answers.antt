use Rattle.std.proofs.Common.{sym, subst, inr}
use Rattle.calls.specs.Lines.{NoCall}
use Rattle.tokens.proofs.Exits.{refused}
use Rattle.calls.proofs.NoCalls.{no_words, no_verb}
use Rattle.calls.proofs.read.worded.Goals as goal

pub returns-in_err-verb : goal.returns-in_err-verb
returns-in_err-verb c = refused _ _ c.from_residual.ensures.0 (no_words _ c.requires c.in_err-verb.ensures.1)

pub returns-in_default : goal.returns-in_default
returns-in_default c =
    let cut = c.in_ok-verb.ensures in
    inr (subst NoCall (sym cut.text)
    (no_verb c.in_ok-verb.verb.text.now c.in_ok-verb.rest.text.now cut.plain
    (c.in_default.not-bank, c.in_default.not-take, c.in_default.not-read, c.in_default.not-set, c.in_default.not-regs)))
