use Rattle.std.proofs.Common.{◌≡◌, List, sym, ap, ◌∙◌, subst, rules}
use Rattle.std.proofs.lemmas.Result.{err_from_is_err_and}
use Rattle.polynomial.specs.Words.{distance}
use Rattle.code.specs.Code.{telemetry}
use Rattle.dual_form.specs.DualForm.{dual_ops}
use Rattle.dual_form.specs.declared.element.Dual.{Dual}
use Rattle.locator.specs.Correction.{Near}
use Rattle.correction.specs.Correcting.{CorrectedIn}
use Rattle.receiver.specs.Lanes.{LaneRead}
use Rattle.receiver.specs.Words.{word_of}
use Rattle.receiver.proofs.Reading.{read_more}
use Rattle.receiver.proofs.Results.{ok_kept, err_kept}
use Rattle.receiver.proofs.Words.{lane_read}
use Rattle.receiver.proofs.lanes.correct_lane.Goals as goal

pub returns-in_err-wrong : goal.returns-in_err-wrong
returns-in_err-wrong c =
    let read = lane_read c.args.block.now.depth.lanes c.args.block.now.bytes.now c.args.lane _ c.unwrap-bytes.result c.requires c.lane.ensures c.unwrap-bytes.ensures in
    let p = err_from_is_err_and c.from_residual.result c.from_residual.ensures.1 in
    let made = err_kept _ c.correct_word.result c.map_err.result c.in_err-wrong.field-0.0 c.map_err.ensures.cases c.in_err-wrong.was in
    let named = made.2 in
    let same : c.in_err-wrong.field-0.0.lane ≡ c.args.lane = search rules in
    let told = rw made.1 at c.correct_word.ensures in
    rw p.1 (ap (λ f. f.lane) p.2 ∙ same, subst (λ v. (w : List Dual) → Near dual_ops telemetry v w → ⊥) read told.1)

pub returns : goal.returns
returns c =
    let d = c.args.block.now.depth.lanes in
    let block = c.args.block.now.bytes.now in
    let read = lane_read d block c.args.lane _ c.unwrap-bytes.result c.requires c.lane.ensures c.unwrap-bytes.ensures in
    let found = word_of c.correct_word.new.bytes in
    let kept = ok_kept _ c.correct_word.result c.map_err.result c.in_ok-wrong.wrong c.map_err.ensures.cases c.in_ok-wrong.was in
    let told : CorrectedIn dual_ops telemetry (word_of c.unwrap-bytes.result) found c.in_ok-wrong.wrong = rw kept at c.correct_word.ensures in
    subst (λ n. LaneRead d block c.args.lane n c.args.message.now c.write_lane.new.message) (sym (told.count ∙ ap (λ v. distance dual_ops v found) read))
    (read_more d block c.args.lane c.args.message.now c.write_lane.new.message found c.requires
    (subst (λ v. Near dual_ops telemetry v found) read told.near) c.write_lane.ensures.written c.write_lane.ensures.others)
