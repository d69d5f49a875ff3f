use Rattle.std.proofs.Common.{Ok, Err, sym, refl, subst}
use Rattle.std.proofs.lemmas.Result.{err_from_is_err_and}
use Rattle.code.specs.Code.{telemetry}
use Rattle.dual_form.specs.DualForm.{dual_ops}
use Rattle.correction.specs.Correcting.{CorrectedIn}
use Rattle.correction.specs.declared.NoCodeword.{NoCodeword}
use Rattle.receiver.specs.Words.{word_of}
use Rattle.receiver.proofs.Remainders.{clean_word, corrected_word}
use Rattle.receiver.proofs.codeword.correct_word.Goals as goal

pub returns-then-is_zero : goal.returns-then-is_zero
returns-then-is_zero c =
    clean_word c.args.bytes.now c.remainder_of-remainder.result c.told-bytes c.remainder_of-remainder.ensures (c.is_zero.ensures.zero c.if-is_zero.true)

pub returns : goal.returns
returns c =
    subst (λ w. CorrectedIn dual_ops telemetry (word_of c.args.bytes.now) w c.in_ok-wrong.wrong) (sym c.write_word.ensures)
    (corrected_word {E = NoCodeword} c.args.bytes.now c.power_word-word.result c.correct.new.word c.remainder_of-remainder.result (Ok c.in_ok-wrong.wrong)
    c.power_word-word.ensures c.remainder_of-remainder.ensures (c.in_ok-wrong.ensures refl))

pub returns-in_err-wrong : goal.returns-in_err-wrong
returns-in_err-wrong c =
    let p = err_from_is_err_and c.from_residual.result c.from_residual.ensures.1 in
    let told = corrected_word {E = NoCodeword} c.args.bytes.now c.power_word-word.result c.correct.new.word c.remainder_of-remainder.result (Err c.in_err-wrong.field-0.0)
    c.power_word-word.ensures c.remainder_of-remainder.ensures (c.in_err-wrong.ensures refl) in
    rw p.1 (refl, told.1)
