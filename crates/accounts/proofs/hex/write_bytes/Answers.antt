use Rattle.accounts.proofs.Written.{digits_more}
use Rattle.accounts.proofs.hex.write_bytes.Goals as goal

pub loop-byte-preserved : goal.loop-byte-preserved
loop-byte-preserved c = digits_more _ _ _ _ _ c.loop-byte-test.true c.loop-byte.invariant c.in_ok-write_byte.ensures
