use Rattle.std.proofs.Common.{◌≡◌, ◌-◌, take, vec_len, ◌∷◌, ◌++◌, [], ◌∙◌, sym, ap, length, length-append, arith, rules, true≢false}
use Rattle.lines.proofs.Reading.{no_feed, feed_ends}
use Rattle.lines.proofs.Ends.{ended, last, long}
use Rattle.lines.proofs.next_line.Goals as goal

pub returns-then-ends_with : goal.returns-then-ends_with
returns-then-ends_with g c =
    let known = c.in_ok-gather.ensures in
    let same : length c.gather.new.line.items - 1 ≡ vec_len c.gather.new.line - 1 = search rules in
    let feed = (feed_ends _ c.gather.new.line.items c.ends_with.result c.deref.ensures.value c.ends_with.ensures.value).0 c.if-ends_with.true in
    let front : c.gather.new.line.items ≡ c.pop.new.self.items ++ 10 ∷ [] = feed ∙ ap (λ l. l ++ 10 ∷ []) (ap (λ k. take k c.gather.new.line.items) same ∙ sym c.pop.ensures.rest) in
    let all = ended _ _ _ _ known front in
    record { outcome = all.0; kept = all.1; rest = all.2; bound = omega (arith, ap length front, length-append c.pop.new.self.items (10 ∷ []), known.fits) }

pub returns-then-len-gt-LONGEST : goal.returns-then-len-gt-LONGEST
returns-then-len-gt-LONGEST g c =
    let known = c.in_ok-gather.ensures in
    let feed = feed_ends _ c.gather.new.line.items c.ends_with.result c.deref.ensures.value c.ends_with.ensures.value in
    let lacks = no_feed c.gather.new.line.items known.stops (λ front e. true≢false (sym (feed.1 front e) ∙ c.if-ends_with.false)) in
    let all = long _ _ _ _ known lacks (search rules) c.in_ok-skip_until.ensures.rest in
    record { outcome = all.0; kept = all.1; rest = all.2; bound = tt }

pub returns-else-len-gt-LONGEST : goal.returns-else-len-gt-LONGEST
returns-else-len-gt-LONGEST g c =
    let known = c.in_ok-gather.ensures in
    let feed = feed_ends _ c.gather.new.line.items c.ends_with.result c.deref.ensures.value c.ends_with.ensures.value in
    let lacks = no_feed c.gather.new.line.items known.stops (λ front e. true≢false (sym (feed.1 front e) ∙ c.if-ends_with.false)) in
    let all = last _ _ _ known lacks (search rules) (omega (arith, c.if-len-gt-LONGEST.false)) in
    record { outcome = all.0; kept = all.1; rest = all.2; bound = omega (arith, c.if-len-gt-LONGEST.false) }
