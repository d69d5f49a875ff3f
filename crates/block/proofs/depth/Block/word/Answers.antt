use Rattle.std.proofs.Common.{◌≡◌, ℕ, ◌-◌, map, get_or, sym, ap, ◌∙◌, zero-add, arith, rules}
use Rattle.std.specs.List.{range_with_len}
use Rattle.std.proofs.lemmas.List.FromFn.{get_or-map-range_with_len, length-map-range_with_len}
use Rattle.dual_form.specs.DualForm.{symbol}
use Rattle.dual_form.specs.declared.element.Dual.{Dual}
use Rattle.block.specs.Lanes.{lane}
use Rattle.block.proofs.Arrays.{array_made}
use Rattle.block.proofs.Places.{lane_at, lane_given, word_filled}
use Rattle.block.proofs.depth.Block.word.Goals as goal

pub returns : goal.returns
returns c =
    let d = c.args.self.now.depth.lanes in
    let block = c.args.self.now.bytes.now in
    let bytes = c.unwrap-bytes.result in
    let is : bytes ≡ lane 255 d block c.args.lane =
    lane_given d block c.args.lane bytes c.requires (sym c.lane.ensures ∙ c.unwrap-bytes.ensures) in
    let each : ℕ → Dual = λ k. symbol (get_or bytes (254 - k) 0) in
    let made : c.from_fn.result ≡ map each (range_with_len 0 255) =
    array_made _ _ each 255 (λ i y q h called. search rules) c.from_fn.result (symbol 0) c.from_fn.ensures.items in
    made
    ∙ word_filled d block c.args.lane (map each (range_with_len 0 255)) (length-map-range_with_len each 0 255)
    (λ k h. get_or-map-range_with_len each 0 255 k k (symbol 0) h (zero-add k) ∙ ap symbol (ap (λ bs. get_or bs (254 - k) 0) is ∙ lane_at 255 d block c.args.lane (254 - k) (omega arith)))
