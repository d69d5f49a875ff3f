use Rattle.std.proofs.Common.{sym, ◌∙◌}
use Rattle.session.specs.Sessions.{state_of}
use Rattle.counter.proofs.Telling.{told_other}
use Rattle.counter.proofs.replies.DeskReplier.reply_to.Goals as goal

pub returns-in-Err-clause-said : goal.returns-in-Err-clause-said
returns-in-Err-clause-said c =
    told_other c.args.number c.args.line.now (state_of c.args.self.now.session) c.in-Err.fault (sym c.is_passed_over.ensures ∙ c.if-is_passed_over.false) c.in-Err.ensures
    c.reply_to_other.result c.reply_to_other.ensures
