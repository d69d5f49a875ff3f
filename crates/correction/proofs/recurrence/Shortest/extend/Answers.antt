use Rattle.std.proofs.Common.{◌+◌, ◌-◌, take, sym, refl, ap, ◌∙◌, arith}
use Rattle.std.proofs.lemmas.Bool.Decides.{not_from_Decides}
use Rattle.polynomial.proofs.Lawful.{lawful}
use Rattle.locator.proofs.Buffers.{same_take, turn_kept, turn_mended, turn_grown}
use Rattle.locator.proofs.Loops.{divided}
use Rattle.correction.proofs.Extending.{tested, some_of, some_reciprocal, read_part, grown_by}
use Rattle.correction.proofs.recurrence.Shortest.extend.Goals as goal

pub invariant_of-self-clause-stands : goal.invariant_of-self-clause-stands
invariant_of-self-clause-stands g c =
    let F = lawful g.met.F.Field.laws in
    let s = c.args.self.now in
    turn_kept F _ _ _ _ _ _ s.stands
    (sym (read_part F s.sequence _ _ _ _ _ c.apply-missed.result s.stands c.apply-missed.ensures) ∙ (tested F c.apply-missed.result c.zero.result _ (g.met.F.Field.equal _ _) c.zero.ensures).0 (sym c.if-eq.ensures))

pub unwrap-requires : goal.unwrap-requires
unwrap-requires g c = some_reciprocal (lawful g.met.F.Field.laws) c.args.self.now.miss _ c.args.self.now.stands.missed c.reciprocal.ensures

pub invariant_of-self-then-at-self-clause-stands : goal.invariant_of-self-then-at-self-clause-stands
invariant_of-self-then-at-self-clause-stands g c =
    let F = lawful g.met.F.Field.laws in
    let s = c.args.self.now in
    let at = s.places - s.degree in
    turn_mended F _ _ _ _ _ _ s.stands
    c.apply-missed.result (read_part F s.sequence _ _ _ _ _ c.apply-missed.result s.stands c.apply-missed.ensures) c.times-f.result
    (ap (λ t. F.ops.product t s.miss) c.times-f.ensures ∙ divided F c.apply-missed.result s.miss c.unwrap.result (some_of F s.miss c.unwrap.result (sym c.unwrap.ensures ∙ c.reciprocal.ensures)))
    (s.degree - (at + 1)) (omega (arith, s.stands.within)) (take (at + 1) s.before)
    (same_take F s.before (at + 1) (λ i h. s.stands.old_short i (omega (arith, s.stands.within))))
    c.add_multiple.new.buffer (omega (arith, s.stands.within, c.add_multiple.ensures.long)) (λ i l. c.add_multiple.ensures.added i (omega (arith, c.add_multiple.ensures.long)))

pub invariant_of-self-2-clause-stands : goal.invariant_of-self-2-clause-stands
invariant_of-self-2-clause-stands g c =
    let F = lawful g.met.F.Field.laws in
    let s = c.args.self.now in
    let at = s.places - s.degree in
    turn_grown F _ _ _ _ _ _ s.stands
    c.apply-missed.result (read_part F s.sequence _ _ _ _ _ c.apply-missed.result s.stands c.apply-missed.ensures) c.times-f.result
    (ap (λ t. F.ops.product t s.miss) c.times-f.ensures ∙ divided F c.apply-missed.result s.miss c.unwrap.result (some_of F s.miss c.unwrap.result (sym c.unwrap.ensures ∙ c.reciprocal.ensures)))
    (not_from_Decides _ (tested F c.apply-missed.result c.zero.result _ (g.met.F.Field.equal _ _) c.zero.ensures) (sym c.if-eq.ensures))
    (omega (arith, s.stands.within)) (at + 1 - s.degree) (at + 1) (omega (arith, s.stands.within)) (omega (arith, s.stands.within))
    s.poly (take (at + 1) s.before) s.poly (λ i. refl) (same_take F s.before (at + 1) (λ i h. s.stands.old_short i (omega (arith, s.stands.within)))) (λ i. refl)
    c.add_multiple-2.new.buffer (omega (arith, s.stands.within, c.add_multiple-2.ensures.long, c.rotate_right.ensures.len))
    (λ i l. grown_by F c.rotate_right.new.self c.add_multiple-2.new.buffer s.poly (take (at + 1) s.before) (at + 1 - s.degree) i c.times-f.result c.rotate_right.ensures.after (omega (arith, s.inside))
    (λ j h. s.stands.monic.above j (omega (arith, s.inside, s.stands.within))) (omega (arith, c.add_multiple-2.ensures.long, c.rotate_right.ensures.len))
    (c.add_multiple-2.ensures.added i (omega (arith, c.add_multiple-2.ensures.long))))
