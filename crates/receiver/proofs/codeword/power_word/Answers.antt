use Rattle.std.proofs.Common.{◌≡◌, map, reverse, ap, ◌∙◌, rules}
use Rattle.power_form.specs.PowerForm.{element}
use Rattle.dual_form.specs.DualForm.{symbol, power_of_dual}
use Rattle.block.proofs.Arrays.{array_mapped}
use Rattle.receiver.proofs.Words.{power_word_is}
use Rattle.receiver.proofs.codeword.power_word.Goals as goal

pub returns : goal.returns
returns c =
    let made : c.map-word.result ≡ map (λ b. power_of_dual (symbol b)) c.args.bytes.now =
    array_mapped _ _ (λ b. power_of_dual (symbol b)) 255 (λ x y q called. search rules) c.args.bytes.now c.map-word.result 0 (element 0) c.told-bytes c.map-word.ensures.items in
    c.reverse.ensures.after ∙ ap reverse made ∙ power_word_is c.args.bytes.now
