use Rattle.std.proofs.Common.{sym, subst}
use Rattle.tokens.proofs.Exits.{refused}
use Rattle.requests.specs.Lines.{NoRequest}
use Rattle.requests.proofs.NoRequests.{no_words, no_kind}
use Rattle.requests.proofs.read.read_request.Goals as goal

pub returns-in_err-verb : goal.returns-in_err-verb
returns-in_err-verb c = refused _ _ c.from_residual.ensures.0 (no_words _ c.in_err-verb.ensures.1)

pub returns-in_err-letter-in_default : goal.returns-in_err-letter-in_default
returns-in_err-letter-in_default c =
    let cut = c.in_ok-verb.ensures in
    refused _ _ c.from_residual-in_err-letter-in_default.ensures.0
    (subst NoRequest (sym cut.text) (no_kind _ cut.plain c.in_default.not-check _ c.in_default.not-const c.in_err-letter-in_default.ensures.1))
