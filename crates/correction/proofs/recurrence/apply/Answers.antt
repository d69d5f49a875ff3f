use Rattle.std.proofs.Common.{◌≡◌, ◌⊎◌, length, inl, inr}
use Rattle.polynomial.proofs.Lawful.{lawful}
use Rattle.correction.proofs.Rows.{apply_next, apply_all}
use Rattle.correction.proofs.recurrence.apply.Goals as goal

pub loop-a-preserved : goal.loop-a-preserved
loop-a-preserved g c =
    let turn = c.in-Some.ensures.steps in
    apply_next (lawful g.met.F.Field.laws) _ _ _ _ _ _ _ _ _ _ turn.0 turn.1 c.times.ensures c.plus-sum.ensures c.loop-a.invariant

pub returns : goal.returns
returns g c =
    let ended : (length c.loop-a.a-iterator.a.rest.now ≡ 0) ⊎ (length c.loop-a.a-iterator.b.rest.now ≡ 0) =
    elim c.in-None.ensures.steps [ inl h ↦ inl h.1.0 | inr h ↦ inr h.1.0 ] in
    apply_all (lawful g.met.F.Field.laws) _ _ _ _ ended c.loop-a.invariant
