use Rattle.std.proofs.Common.{arith, rules}
use Rattle.tokens.proofs.Blanks.{some_byte, first_word}
use Rattle.tokens.proofs.Filters.{filtered}
use Rattle.tokens.proofs.words.word.Goals as goal

pub returns : goal.returns
returns c = rw (c.ok_or.ensures.value, filtered (some_byte c.args.piece) (λ x b gives. search rules) _ _ c.filter.ensures) (first_word c.args.piece _ (c.cut.ensures.text (omega arith)) c.cut.ensures.columns)
