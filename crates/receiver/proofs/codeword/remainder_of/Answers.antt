use Rattle.std.proofs.Common.{◌≡◌, [], map, length, get_or, take, ap, ◌∙◌, arith, rules}
use Rattle.std.specs.List.{range_with_len}
use Rattle.code.specs.Code.{telemetry}
use Rattle.power_form.specs.PowerForm.{element}
use Rattle.dual_form.specs.DualForm.{symbol, dual_ops}
use Rattle.divider.specs.Registers.{registers}
use Rattle.bank.specs.Lanes.{zeros, all_stepped}
use Rattle.block.proofs.Arrays.{array_made}
use Rattle.receiver.proofs.Remainders.{sums, remainder_found}
use Rattle.receiver.proofs.codeword.remainder_of.Goals as goal

pub returns : goal.returns
unfolding zeros all_stepped
returns c =
    let bytes = c.args.bytes.now in
    let held = c.divide-registers.result in
    let took : map symbol held ≡ registers dual_ops telemetry (map symbol (take 223 bytes)) =
    c.divide-registers.ensures ∙ ap (λ ls. all_stepped (get_or ls 0 []) (take 223 bytes)) c.new.ensures in
    let size : length held ≡ 32 = omega arith in
    let each = sums bytes held c.told-bytes size took in
    let made : c.from_fn.result ≡ map each (range_with_len 0 32) =
    array_made _ _ each 32 (λ i y q h called. search rules) c.from_fn.result (element 0) c.from_fn.ensures.items in
    remainder_found bytes held c.told-bytes size took c.from_fn.result made
