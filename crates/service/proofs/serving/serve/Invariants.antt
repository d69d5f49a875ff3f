use Rattle.service.proofs.Running.{RunningAt}
use Rattle.service.proofs.serving.serve.Given as goal

abbrev pub invariant-loop-number : goal.invariant-loop-number
invariant-loop-number g l =
    RunningAt g.D.Replier.Says (g.R.Read.remaining l.initial.input) (g.W.Write.contents l.initial.output) l.initial.replier l.replier l.number l.counts.answered l.counts.refused
    (g.R.Read.remaining l.input) (g.W.Write.contents l.output)
