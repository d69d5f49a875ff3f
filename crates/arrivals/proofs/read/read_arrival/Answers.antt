use Rattle.std.proofs.Common.{sym, subst, inr}
use Rattle.tokens.proofs.Exits.{refused}
use Rattle.arrivals.specs.Lines.{NoArrival}
use Rattle.arrivals.proofs.NoArrivals.{no_words, no_verb}
use Rattle.arrivals.proofs.read.read_arrival.Goals as goal

pub returns-in_err-verb : goal.returns-in_err-verb
returns-in_err-verb c = refused _ _ c.from_residual.ensures.0 (no_words _ c.in_err-verb.ensures.1)

pub returns-in_default : goal.returns-in_default
returns-in_default c =
    let cut = c.in_ok-verb.ensures in
    inr (subst NoArrival (sym cut.text)
    (no_verb c.in_ok-verb.verb.text.now c.in_ok-verb.rest.text.now cut.plain c.in_default.not-receive c.in_default.not-next))
