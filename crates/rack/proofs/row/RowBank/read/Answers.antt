use Rattle.std.proofs.Common.{◌≡◌, ◌≤◌, ◌<◌, Some, None, length, get_or, ap, ◌∙◌, arith}
use Rattle.std.proofs.lemmas.Option.{MatchOption-at_none, MatchOption-at_some}
use Rattle.rack.specs.RowsLemmas.{past_told, told_row}
use Rattle.rack.proofs.row.RowBank.read.Goals as goal

pub returns-in_err-ok_or : goal.returns-in_err-ok_or
returns-in_err-ok_or g c =
    let none : c.get.result ≡ None = grind arith in
    let past : length c.args.self.now.banks.items ≤ c.args.lane =
    omega (arith, MatchOption-at_none _ _ none c.get.ensures.lookup.3, ap length c.deref.ensures.0) in
    past_told g.D.Bank.lanes c.args.self.now.banks.items c.args.lane past c.args.place c.from_residual.result c.from_residual.ensures.0

pub returns : goal.returns
returns g c =
    let bank = c.in_ok-ok_or.field-0 in
    let banks = c.args.self.now.banks.items in
    let some : c.get.result ≡ Some bank = grind arith in
    let inside : c.args.lane < length banks =
    omega (arith, (MatchOption-at_some _ _ bank some c.get.ensures.lookup.3).0, ap length c.deref.ensures.0) in
    let is = MatchOption-at_some _ _ bank some c.get.ensures.lookup.1 ∙ ap (λ xs. get_or xs c.args.lane bank.now) c.deref.ensures.0 in
    c.read.ensures ∙ told_row g.D.Bank.lanes banks c.args.lane bank.now inside is g.met.D.Single.single c.args.place
