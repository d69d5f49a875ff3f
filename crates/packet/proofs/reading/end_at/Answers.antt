use Rattle.std.proofs.Common.{◌≡◌, ◌+◌, sym, rules}
use borrow.Author.Tests.{tests}
use Rattle.std.proofs.lemmas.Iterator.{IsFirst-from_position, YieldsList-from_slice}
use Rattle.packet.proofs.Steps.{filled_all, filled_stop}
use Rattle.packet.proofs.reading.end_at.Goals as goal

pub returns-in-Some : goal.returns-in-Some
returns-in-Some c =
    let found =
    IsFirst-from_position _ _ _ (λ b. b ≡ 0 → ⊥) (λ b. b ≡ 0) c.position.ensures.ran (YieldsList-from_slice c.args.fill.now cc)
    (λ x q k. search (rules, tests)) (λ x q k. search (rules, tests)) in
    let first = rw c.in-Some.is at found in
    sym (filled_stop c.args.place (c.args.place + 1) c.args.fill.now c.in-Some.i first.0 (first.1 0) (λ k h. first.2 k 0 (search rules) h))

pub returns-in-None : goal.returns-in-None
returns-in-None c =
    let found =
    IsFirst-from_position _ _ _ (λ b. b ≡ 0 → ⊥) (λ b. b ≡ 0) c.position.ensures.ran (YieldsList-from_slice c.args.fill.now cc)
    (λ x q k. search (rules, tests)) (λ x q k. search (rules, tests)) in
    let zeros = rw c.in-None.is at found in
    sym (filled_all c.args.place (c.args.place + 1) c.args.fill.now (λ k h. zeros k 0 (search rules) h))
