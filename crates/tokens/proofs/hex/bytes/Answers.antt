use Rattle.std.proofs.Common.{vec_items}
use Rattle.tokens.proofs.Digits.{refuted}
use Rattle.tokens.proofs.hex.bytes.Goals as goal

pub returns-in_default : goal.returns-in_default
returns-in_default c = refuted vec_items _ _ _ c.hex_bytes.ensures c.in_default.not-empty c.in_default.not-text
