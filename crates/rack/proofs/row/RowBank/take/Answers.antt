use Rattle.std.proofs.Common.{◌≡◌, ◌≤◌, Some, None, length, sym, ◌∙◌, arith}
use Rattle.std.proofs.lemmas.Option.{MatchOption-at_none, MatchOption-at_some}
use Rattle.rack.specs.RowsLemmas.{past_lane, past_kept, there, fed_row}
use Rattle.rack.proofs.row.RowBank.take.Goals as goal

pub returns-in_err-ok_or : goal.returns-in_err-ok_or
returns-in_err-ok_or g c =
    let none : c.get_mut.result ≡ None = grind arith in
    let past : length c.args.self.now.banks.items ≤ c.args.lane = MatchOption-at_none _ _ none c.get_mut.ensures.item.3 in
    record {
      answer = past_lane g.D.Bank.lanes c.args.self.now.banks.items c.args.lane past c.from_residual.result c.from_residual.ensures.0;
      after = past_kept g.D.Bank.lanes c.args.self.now.banks.items c.args.lane past _;
    }

pub returns : goal.returns
returns g c =
    let bank = c.in_ok-ok_or.field-0 in
    let banks = c.args.self.now.banks.items in
    let some : c.get_mut.result ≡ Some bank = grind arith in
    let inside = (MatchOption-at_some _ _ bank some c.get_mut.ensures.item.3).0 in
    let is = MatchOption-at_some _ _ bank some c.get_mut.ensures.value in
    record {
      answer = c.take.ensures.answer ∙ sym (rw (there g.D.Bank.lanes banks c.args.lane bank.now inside is g.met.D.Single.single));
      after = fed_row g.D.Bank.lanes banks c.args.lane bank.now inside is g.met.D.Single.single c.take.new.self c.args.byte c.take.ensures.after;
    }
