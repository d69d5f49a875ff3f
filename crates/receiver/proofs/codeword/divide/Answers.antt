use Rattle.std.proofs.Common.{[], length, get_or, ap, ◌∙◌}
use Rattle.std.proofs.lemmas.Bool.{lt-ltb}
use Rattle.std.proofs.lemmas.List.{get_or-set_same}
use Rattle.bank.proofs.Held.{row_read}
use Rattle.receiver.proofs.codeword.divide.Goals as goal

pub unwrap-requires : goal.unwrap-requires
unwrap-requires g c =
    let lanes = g.B.Bank.lanes c.take_all.new.bank in
    rw (c.read_all.ensures, lt-ltb 0 (length lanes) (g.met.B.Bank.shape c.take_all.new.bank).some)

pub returns : goal.returns
returns g c =
    let lanes = g.B.Bank.lanes c.take_all.new.bank in
    row_read lanes 0 c.unwrap.result c.read_all.result c.read_all.ensures c.unwrap.ensures (g.met.B.Bank.shape c.take_all.new.bank).some
    ∙ ap (λ ls. get_or ls 0 []) c.take_all.ensures.after
    ∙ get_or-set_same (g.B.Bank.lanes c.args.bank.now) 0 _ [] (g.met.B.Bank.shape c.args.bank.now).some
