use Rattle.std.proofs.Common.{◌∙◌, sym, inl, inr, arith, true≢false}
use Rattle.lines.proofs.Reading.{no_feed, feed_ends, longer_line, nothing_left}
use Rattle.lines.proofs.gather.Goals.{then-moved-eq0-via-then-moved-eq0, then-moved-eq0-via-else-moved-eq0+then-ends_with}
use Rattle.lines.proofs.gather.Goals as goal

pub loop-room-preserved : goal.loop-room-preserved
loop-room-preserved g c =
    let step = longer_line _ _ _ _ _ _ _ c.loop-room.invariant.1 c.loop-room.invariant.2 c.in_ok-moved.ensures in
    let feed = feed_ends _ c.move_part.new.line.items c.ends_with.result c.deref.ensures.value c.ends_with.ensures.value in (
      omega (arith, c.loop-room.invariant.0, step.0, c.in_ok-moved.ensures.fits),
      no_feed c.move_part.new.line.items step.1 (λ front e. true≢false (sym (feed.1 front e) ∙ c.if-ends_with.false)),
      step.2,
    )

pub returns-then-moved-eq0 : goal.returns-then-moved-eq0
returns-then-moved-eq0 g c =
    let step = longer_line _ _ _ _ _ _ _ c.loop-room.invariant.1 c.loop-room.invariant.2 c.in_ok-moved.ensures in
    record {
      fits = omega (arith, c.loop-room.invariant.0, step.0, c.in_ok-moved.ensures.fits);
      stops = step.1;
      gone = step.2;
      ends = elim c.then-moved-eq0.branch [
        | then-moved-eq0-via-then-moved-eq0 w ↦ inr (inr (nothing_left _ _ _ _ c.loop-room.invariant.2
            (c.in_ok-moved.ensures.none w.if-moved-eq0.true (omega (arith, c.loop-room-test.true)))))
        | then-moved-eq0-via-else-moved-eq0+then-ends_with w ↦ inl (_, (feed_ends _ c.move_part.new.line.items w.ends_with.result w.deref.ensures.value w.ends_with.ensures.value).0 w.if-ends_with.true)
      ];
    }
