use Rattle.std.proofs.Common.{◌≡◌, map, reverse, ap, ◌∙◌, rules}
use Rattle.power_form.specs.PowerForm.{element}
use Rattle.dual_form.specs.DualForm.{dual_of_power}
use Rattle.block.proofs.Arrays.{array_mapped}
use Rattle.receiver.proofs.Words.{word_written}
use Rattle.receiver.proofs.codeword.write_word.Goals as goal

pub returns : goal.returns
returns c =
    let made : c.map.result ≡ map (λ x. (dual_of_power x).byte) c.args.word.now =
    array_mapped _ _ (λ x. (dual_of_power x).byte) 255 (λ x y q called. search rules) c.args.word.now c.map.result (element 0) 0 c.told-word c.map.ensures.items in
    word_written c.args.word.now c.reverse.new.self (c.reverse.ensures.after ∙ ap reverse made)
