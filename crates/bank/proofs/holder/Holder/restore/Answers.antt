use Rattle.std.proofs.Common.{[], ◌++◌, map, take, drop, set, sym, ap, ◌∙◌, arith, rules}
use Rattle.std.proofs.lemmas.List.{get_or-take, length-take-le}
use Rattle.dual_form.specs.DualForm.{symbol}
use Rattle.bank.specs.Lanes.{elements}
use Rattle.bank.proofs.Held.{spliced_more, spliced_all, length_spliced, length_elements, element_row, held_is, held_restored}
use Rattle.bank.proofs.holder.Holder.restore.Goals as goal

pub loop-lane-init : goal.loop-lane-init
loop-lane-init g c = search rules

pub restore_lane-requires : goal.restore_lane-requires
restore_lane-requires g c =
    let ls = g.B.Bank.lanes c.args.self.now.bank in
    let few = (g.met.B.Bank.shape c.args.self.now.bank).few in
    let rows = length-take-le c.count-count.result c.args.self.now.copy (omega arith) in
    let m = length_elements c.args.self.now.copy in
    let n = length_spliced (elements c.args.self.now.copy) ls c.loop-lane.lane (omega arith) (omega arith) in
    rw c.loop-lane.invariant (omega arith)

pub loop-lane-preserved : goal.loop-lane-preserved
loop-lane-preserved g c =
    let ls = g.B.Bank.lanes c.args.self.now.bank in
    let copy = c.args.self.now.copy in
    let few = (g.met.B.Bank.shape c.args.self.now.bank).few in
    let rows = length-take-le c.count-count.result copy (omega arith) in
    let m = length_elements copy in
    let row = ap (map symbol) (get_or-take c.count-count.result copy c.loop-lane.lane [] (omega arith)) ∙ element_row copy c.loop-lane.lane (omega arith) in
    let more = spliced_more (elements copy) ls c.loop-lane.lane [] (omega arith) (omega arith) in
    let x = take c.loop-lane.lane (elements copy) ++ drop c.loop-lane.lane ls in
    c.restore_lane.ensures ∙ rw c.loop-lane.invariant (ap (set x c.loop-lane.lane) row ∙ more)

pub returns-clause-lanes : goal.returns-clause-lanes
returns-clause-lanes g c =
    let ls = g.B.Bank.lanes c.args.self.now.bank in
    let few = (g.met.B.Bank.shape c.args.self.now.bank).few in
    let rows = length-take-le c.count-count.result c.args.self.now.copy (omega arith) in
    c.loop-lane.invariant ∙ spliced_all (elements c.args.self.now.copy) ls c.loop-lane.lane (omega arith) (omega arith) ∙ sym (held_is _ _)

pub returns-clause-copy : goal.returns-clause-copy
returns-clause-copy g c = held_restored (g.B.Bank.lanes c.args.self.now.bank) (g.B.Bank.lanes c.loop-lane.self.1.0) c.args.self.now.copy (returns-clause-lanes g c)
