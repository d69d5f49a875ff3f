use Rattle.std.proofs.Common.{inl, inr, arith}
use Rattle.service.proofs.Running.{more, ends}
use Rattle.service.proofs.serving.serve.Goals.{else-loop-number-test, then-loop-number-test+in_ok-read+in_default}
use Rattle.service.proofs.serving.serve.Goals as goal

pub loop-number-preserved : goal.loop-number-preserved
loop-number-preserved g c =
    let known = c.in_ok-read.ensures in
    more g.D.Replier.Says _ _ _ _ _ _ _ _ _ _ _ _ _ _ _ c.in-Some.read _ _ c.in_ok-reply.reply c.loop-number.invariant
    c.in-Some.is known.outcome known.kept known.rest c.deref.ensures.value c.in_ok-reply.ensures c.count.ensures c.in_ok-print.ensures

pub returns : goal.returns
returns g c =
    ends g.D.Replier.Says _ _ _ _ _ _ _ _ _ _ _ c.loop-number.invariant (elim c.loop-number-test.branch [
      | else-loop-number-test w ↦ inl (omega (arith, w.loop-number-test.false))
      | then-loop-number-test+in_ok-read+in_default w ↦ inr (_, w.in_default.is, w.in_ok-read.ensures.outcome)
    ]) c.in_ok-writeln.ensures.bytes c.in_ok-flush.ensures.bytes
