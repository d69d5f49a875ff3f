use Rattle.std.proofs.Common.{◌≡◌, eqb, ◌++◌, length, get_or, replicate, sym, ap, ◌∙◌}
use Rattle.bank.specs.Lanes.{zeros, all_cleared}
use Rattle.lineup.specs.Built.{assembly_lanes}
use Rattle.lineup.specs.Kinds.{first_eight, listed}
use Rattle.lineup.specs.Plans.{dividers_of, lanes_of}
use Rattle.lineup.proofs.Assembled.{lanes_planned, counted_divider, holder_told, whole_none, longer_none, whole_text}
use Rattle.lineup.proofs.building.bank_of.Goals as goal

pub returns-in_err-rest : goal.returns-in_err-rest
returns-in_err-rest c = rw c.from_residual.ensures (whole_none 64 c.args.text.now c.in_err-rest.ensures)

pub returns-then-not-is_empty : goal.returns-then-not-is_empty
returns-then-not-is_empty c =
    let l = c.in_ok-rest.ensures in
    longer_none 64 c.args.text.now c.in_ok-rest.rest.now l.plan l.begins (sym c.if-not-is_empty.ensures)

pub returns-in_err-bank : goal.returns-in_err-bank
returns-in_err-bank c =
    let l = c.in_ok-rest.ensures in
    let e : listed c.read_part.new.kinds ≡ first_eight (dividers_of l.plan) = l.kinds ∙ ap (λ k. first_eight (k ++ dividers_of l.plan)) c.new-kinds.ensures in
    absurd (counted_divider 64 l.plan l.begins.within (sym e ∙ c.in_err-bank.ensures))

pub returns : goal.returns
returns c =
    let l = c.in_ok-rest.ensures in
    let e : listed c.read_part.new.kinds ≡ first_eight (dividers_of l.plan) = l.kinds ∙ ap (λ k. first_eight (k ++ dividers_of l.plan)) c.new-kinds.ensures in
    let text_is = whole_text 64 c.args.text.now c.in_ok-rest.rest.now l.plan l.begins (sym c.if-not-is_empty.ensures) in
    let lanes : assembly_lanes c.new.result.bank ≡ lanes_of l.plan =
    ap assembly_lanes c.new.ensures.bank ∙ c.in_ok-bank.ensures ∙ ap (λ k. replicate (length k) zeros) e ∙ sym (lanes_planned 64 l.plan l.begins.within) in
    record {
      plan = l.plan;
      within = l.begins.within;
      text_is = text_is;
      lanes = lanes;
      copy = c.new.ensures.copy ∙ ap all_cleared lanes;
      holds = c.begins_as_holder.ensures ∙ ap (λ t. eqb (get_or t 0 0) 104) text_is ∙ holder_told 64 l.plan l.begins.within;
    }
