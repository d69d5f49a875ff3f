use Rattle.std.proofs.Common.{[], map, get_or, set, sym, ap, ◌∙◌, arith}
use Rattle.std.proofs.lemmas.List.{set-get_or, length-map, take_all}
use Rattle.dual_form.specs.DualForm.{symbol}
use Rattle.bank.proofs.Held.{placed_more, spliced_all}
use Rattle.bank.proofs.holder.restore_lane.Goals as goal

pub loop-place-init : goal.loop-place-init
loop-place-init g c = sym (set-get_or _ _ [])

pub loop-place-preserved : goal.loop-place-preserved
loop-place-preserved g c =
    let w = (g.met.B.Bank.shape c.args.bank.now).wide c.args.lane c.requires in
    c.set.ensures.after ∙ placed_more (g.B.Bank.lanes c.args.bank.now) _ c.args.lane c.args.row.now c.loop-place.place c.requires (omega arith) (omega arith) c.loop-place.invariant

pub returns : goal.returns
returns g c =
    let ls = g.B.Bank.lanes c.args.bank.now in
    let w = (g.met.B.Bank.shape c.args.bank.now).wide c.args.lane c.requires in
    let n = length-map c.args.row.now symbol in
    c.loop-place.invariant
    ∙ ap (set ls c.args.lane) (spliced_all (map symbol c.args.row.now) (get_or ls c.args.lane []) c.loop-place.place (omega arith) (omega arith) ∙ take_all _ (map symbol c.args.row.now) (omega arith))
