use Rattle.std.proofs.Common.{◌≡◌, ◌≢◌, ◌+◌, All, vec_len, vec_items}
use Rattle.std.specs.Io.KnownBytes.{Consumes}
use Rattle.lines.proofs.gather.Given as goal

abbrev pub invariant-loop-room : goal.invariant-loop-room
invariant-loop-room g l =
    (l.room + vec_len l.line ≡ l.most) × All (λ x. x ≢ 10) (vec_items l.line)
    × Consumes (g.R.Read.remaining l.initial.input) (g.R.Read.remaining l.input) (vec_items l.line)

abbrev pub decreases-loop-room : goal.decreases-loop-room
decreases-loop-room g l = l.room
