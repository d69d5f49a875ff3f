use Rattle.std.proofs.Common.{decimal, arith}
use Rattle.std.proofs.lemmas.Result.{MatchResult-from_err}
use Rattle.tokens.proofs.Blanks.{parted}
use Rattle.tokens.proofs.Decimals.{no_number}
use Rattle.tokens.proofs.Settings.{behind_key, plain_setting}
use Rattle.tokens.proofs.words.setting.Goals as goal

pub returns-in_err-first-clause-told : goal.returns-in_err-first-clause-told
returns-in_err-first-clause-told c =
    MatchResult-from_err _ _ _ c.from_residual.ensures.0
    (λ _. λ lacks n rest small e. c.in_err-first.ensures.1 _ rest (plain_setting _ _ lacks (omega arith) n small) e)

pub returns-in_err-keyed-clause-told : goal.returns-in_err-keyed-clause-told
returns-in_err-keyed-clause-told c =
    MatchResult-from_err _ _ _ c.from_residual-in_err-keyed.ensures.0
    (λ _. λ lacks n rest small e. c.in_err-keyed.ensures.1 (decimal n) (parted c.in_ok-first.ensures _ rest (plain_setting _ _ lacks (omega arith) n small) e).0)

pub returns-in_err-value-clause-told : goal.returns-in_err-value-clause-told
returns-in_err-value-clause-told c =
    MatchResult-from_err _ _ _ c.from_residual-in_err-value.ensures.0
    (λ _. λ lacks n rest small e.
    let word = (parted c.in_ok-first.ensures _ rest (plain_setting _ _ lacks (omega arith) n small) e).0 in
    no_number _ _ _ _ c.in_err-value.ensures n small (omega arith) (behind_key c.in_ok-keyed.ensures (decimal n) word))
