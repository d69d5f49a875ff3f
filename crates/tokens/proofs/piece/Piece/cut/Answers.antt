use Rattle.std.proofs.lemmas.Str.Pattern.{split_parts}
use Rattle.std.proofs.lemmas.Option.{MatchOption-at_some, MatchOption-at_none}
use Rattle.tokens.proofs.piece.Piece.cut.Goals as goal

pub returns-in_err-first-clause-text : goal.returns-in_err-first-clause-text
returns-in_err-first-clause-text c = λ ascii.
    let parts = split_parts c.args.mark c.args.self.text.now _ c.split_once.ensures.cases ascii in
    rw c.from_residual.ensures (MatchOption-at_none _ _ c.in_err-first.was parts)

pub returns-clause-text : goal.returns-clause-text
returns-clause-text c = λ ascii.
    let parts = MatchOption-at_some _ _ _ c.in_ok-first.was (split_parts c.args.mark c.args.self.text.now _ c.split_once.ensures.cases ascii) in
    record { text = parts.0; lacks = parts.1 }
