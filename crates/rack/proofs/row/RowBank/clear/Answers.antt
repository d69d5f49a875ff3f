use Rattle.std.proofs.Common.{◌≡◌, length, ap, ◌∙◌, arith}
use Rattle.arrayvec.proofs.ArrayVecLemmas.{items-with_items}
use Rattle.rack.specs.Rows.{row}
use Rattle.rack.specs.RowsLemmas.{cleared_more, cleared_all}
use Rattle.rack.proofs.row.RowBank.clear.Goals as goal

pub loop-bank-preserved : goal.loop-bank-preserved
loop-bank-preserved g c =
    cleared_more g.D.Bank.lanes c.loop-bank.bank-items c.loop-bank.bank-index c.clear.new.self _
    (omega arith) (g.met.D.Single.single _) c.clear.ensures c.loop-bank.invariant

pub returns : goal.returns
returns g c =
    let banks = c.args.self.now.banks in
    let long : length c.loop-bank.bank-items ≡ length banks.items = omega (arith, ap length c.deref_mut-bank-items.ensures.value) in
    ap (row g.D.Bank.lanes) (items-with_items banks c.loop-bank.bank-items long)
    ∙ cleared_all g.D.Bank.lanes c.loop-bank.bank-items banks.items long (λ k h. c.loop-bank.invariant k (omega (arith, ap length c.deref_mut-bank-items.ensures.value)))
