use Rattle.std.proofs.Common.{inl}
use Rattle.counter.proofs.replies.reply_to_other.Goals as goal

pub returns-in_ok-answer_arrival-in-Ok : goal.returns-in_ok-answer_arrival-in-Ok
returns-in_ok-answer_arrival-in-Ok c = inl (c.in-Ok.arrival, c.in-Ok.ensures, c.in_ok-answer_arrival-in-Ok.ensures)
