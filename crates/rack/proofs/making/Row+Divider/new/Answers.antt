use Rattle.std.proofs.Common.{◌≡◌, [], ◌∷◌, ◌+◌, ◌++◌, map, length, replicate, ap, ap₂, ◌∙◌, sym, arith}
use Rattle.std.proofs.lemmas.List.{map-append, take_more, take_all}
use Rattle.bank.specs.Lanes.{zeros}
use Rattle.rack.specs.Dividers.{divider_lanes, kind_of}
use Rattle.rack.specs.Rows.{row}
use Rattle.rack.specs.RowsLemmas.{row_pushed}
use Rattle.rack.proofs.making.Row+Divider.new.Goals as goal

pub loop-kind-init : goal.loop-kind-init
unfolding row
loop-kind-init c = record {
  long = ap length c.new-banks.ensures;
  lanes = ap (row divider_lanes) c.new-banks.ensures;
  kinds = ap (map kind_of) c.new-banks.ensures;
}

pub loop-kind-preserved : goal.loop-kind-preserved
loop-kind-preserved c =
    let so_far = c.loop-kind.invariant in
    let banks = c.loop-kind.banks.items in
    let i = c.loop-kind.kind-index in
    record {
      long = c.push.ensures.len ∙ ap (λ n. n + 1) so_far.long;
      lanes = ap (row divider_lanes) c.push.ensures.items ∙ row_pushed divider_lanes banks c.from.result zeros i so_far.lanes c.from.ensures.0;
      kinds =
          ap (map kind_of) c.push.ensures.items ∙ map-append kind_of banks (c.from.result ∷ [])
          ∙ ap₂ (λ l k. l ++ (k ∷ [])) so_far.kinds c.from.ensures.1 ∙ sym (take_more c.args.kinds.now i _ c.loop-kind-test.true);
    }

pub push-requires : goal.push-requires
push-requires c = omega (arith, c.loop-kind.invariant.long)

pub returns : goal.returns
returns c =
    let so_far = c.loop-kind.invariant in
    let all : c.loop-kind.kind-index ≡ length c.args.kinds.now = omega arith in (
      so_far.lanes ∙ ap (λ n. replicate n zeros) all,
      so_far.kinds ∙ take_all _ c.args.kinds.now (omega arith),
    )
