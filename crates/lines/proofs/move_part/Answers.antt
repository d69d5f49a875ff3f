use Rattle.std.proofs.Common.{◌≡◌, ◌++◌, ◌∙◌, length, take, sym, ap, subst, arith, length-append}
use Rattle.std.specs.Io.{StopsAt}
use Rattle.std.specs.Io.KnownBytes.{Consumes}
use Rattle.std.specs.Io.BufRead.{take_through, FillKeeps, DropsConsumable}
use Rattle.std.proofs.BufReadLemmas.{Consumes_shown}
use Rattle.std.proofs.Transfers.{drop-appended}
use Rattle.lines.proofs.Reading.{part_front, part_within, part_none}
use Rattle.lines.proofs.move_part.Goals as goal

pub returns : goal.returns
returns g c =
    let old = c.args.line.now.items in
    let room = c.args.room in
    let shown = c.in_ok-shown.shown.now in
    let part = take_through 10 (take room shown) in
    let same : take c.take.result.limit c.take.result.inner.now ≡ take room shown =
    ap (λ k. take k c.take.result.inner.now) c.take.ensures.limit ∙ ap (λ s. take room s.now) c.take.ensures.inner in
    let appended : c.read_until.new.buf.items ≡ old ++ part = c.in_ok-moved.ensures.bytes ∙ ap (λ l. old ++ take_through 10 l) same in
    let within = part_within room shown in
    let count : c.in_ok-moved.moved ≡ length part = omega (arith, c.in_ok-moved.ensures.ok, ap length appended, length-append old part) in
    let rested = c.fill_buf.follows.lender-at-none in
    let filled = subst (FillKeeps _ (g.R.Read.remaining rested) (g.R.BufRead.consumable_len rested)) c.in_ok-shown.was c.fill_buf.follows.holds-at-none in
    let drops = subst (DropsConsumable _ _ (g.R.BufRead.consumable_len rested)) count c.consume.ensures.bytes in
    let moved = Consumes_shown _ _ _ _ shown (length part) within.1 c.in_ok-shown.ensures.front c.in_ok-shown.ensures.end filled.0 filled.1 drops in
    record {
      part = part;
      count = count;
      fits = omega (arith, count, within.0);
      appended = appended;
      stops = subst (λ l. StopsAt l 10) (drop-appended old c.read_until.new.buf.items part appended) c.in_ok-moved.ensures.stops;
      gone = subst (Consumes _ _) (part_front room shown) moved.0;
      none = λ nothing some. moved.1 (part_none room shown (sym count ∙ nothing) some);
    }
