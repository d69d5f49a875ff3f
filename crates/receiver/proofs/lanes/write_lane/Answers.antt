use Rattle.std.proofs.Common.{◌≡◌, ◌*◌, ◌%◌, ◌≤◌, length, take, get_or, refl, sym, ap, ◌∙◌, arith, rules}
use Rattle.std.proofs.lemmas.List.{get_or-take, length-take}
use Rattle.receiver.proofs.Weaving.{depth_most, row_written, others_kept}
use Rattle.receiver.proofs.Words.{word_of_at}
use Rattle.receiver.proofs.lanes.write_lane.Goals as goal

pub loop-i-init : goal.loop-i-init
loop-i-init c = (λ j h. absurd (omega arith), λ j k h k_inside other. refl)

pub loop-i-preserved : goal.loop-i-preserved
loop-i-preserved c =
    let bytes = c.args.bytes.now in
    let within = c.loop-i-test.true in
    let room : 223 * c.args.depth.lanes ≤ length c.loop-i.message = omega (arith, depth_most c.args.depth.lanes c.args.depth.known) in
    let low : get_or (take 223 bytes) c.loop-i.i 0 ≡ get_or (take 223 bytes) c.loop-i.i 0 % 256 = search rules in
    let byte : get_or (take 223 bytes) c.loop-i.i 0 ≡ get_or bytes c.loop-i.i 0 % 256 =
    low ∙ ap (λ b. b % 256) (get_or-take 223 bytes c.loop-i.i 0 (omega (arith, length-take 223 bytes))) in (
      row_written c.args.depth.lanes c.args.lane c.requires c.args.message.now c.loop-i.message bytes c.loop-i.i _ (omega (arith, length-take 223 bytes)) room byte c.loop-i.invariant.0,
      others_kept c.args.depth.lanes c.args.lane c.requires c.args.message.now c.loop-i.message c.loop-i.i _ c.loop-i.invariant.1,
    )

pub returns : goal.returns
returns c = record {
  written = λ i h. c.loop-i.invariant.0 i (omega (arith, length-take 223 c.args.bytes.now)) ∙ sym (ap (λ x. x.byte) (word_of_at c.args.bytes.now i c.told-bytes (omega arith)));
  others = c.loop-i.invariant.1;
}
