-- There is only one line for a block, since receiving allows one answer.
use Rattle.std.proofs.Common.{replicate, sym, ◌∙◌}
use Rattle.reception.proofs.One.{one_answer}
use Rattle.accounts.specs.Receive.{receive_line, OneLine}

pub one_line : OneLine
one_line id depth size block line other t u =
    let same = one_answer depth block (replicate size 0xa5) t.answer u.answer t.message u.message t.received u.received in
    t.told ∙ (λ i. receive_line id (same.0 i) (same.1 i)) ∙ sym u.told
