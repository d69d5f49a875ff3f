use Rattle.std.proofs.Common.{◌≡◌, [], ◌∷◌, is_ok, ap, inr, arith, rules}
use Rattle.std.proofs.ResultArms.{chosen}
use Rattle.std.proofs.lemmas.Option.{MatchOption-at_some, MatchOption-at_none}
use Rattle.std.proofs.lemmas.Result.{MatchResult-from_err}
use Rattle.spelling.proofs.Commas.{read_more, read_last, refused_first, refused_last}
use Rattle.spelling.proofs.list.read_list.Goals as goal

pub returns-in_err-read : goal.returns-in_err-read
returns-in_err-read g c =
    let no_dash : c.args.piece.text.now ≡ 45 ∷ [] → ⊥ = search rules in
    let parts = MatchOption-at_some _ _ _ c.in-Some.is (c.cut.ensures.text (omega arith)) in
    MatchResult-from_err _ _ _ c.from_residual.ensures.0
    (λ _. inr (refused_first g.S.Spelled.written g.met.S.Spelled.plain _ _ _ _ _ c.loop-first.invariant no_dash parts.text parts.lacks c.in_err-read.ensures))

pub loop-first-preserved : goal.loop-first-preserved
loop-first-preserved g c =
    let parts = MatchOption-at_some _ _ _ c.in-Some.is (c.cut.ensures.text (omega arith)) in
    read_more g.S.Spelled.written _ _ _ _ _ _ _ c.loop-first.invariant parts.text c.in_ok-read.ensures
    (chosen _ _ _ _ c.push.ensures.items (ap is_ok c.in_ok-push.was))

pub returns-in_err-read-2 : goal.returns-in_err-read-2
returns-in_err-read-2 g c =
    let no_dash : c.args.piece.text.now ≡ 45 ∷ [] → ⊥ = search rules in
    let lacks = MatchOption-at_none _ _ c.in_default.is (c.cut.ensures.text (omega arith)) in
    MatchResult-from_err _ _ _ c.from_residual-in_err-read-2.ensures.0
    (λ _. inr (refused_last g.S.Spelled.written g.met.S.Spelled.plain _ _ _ c.loop-first.invariant no_dash lacks c.in_err-read-2.ensures))

pub returns : goal.returns
returns g c =
    read_last g.S.Spelled.written _ _ _ _ _ c.loop-first.invariant c.in_ok-read-2.ensures
    (chosen _ _ _ _ c.push-2.ensures.items (ap is_ok c.in_ok-push-2.was))
