use Rattle.std.proofs.Common.{◌≡◌, ◌++◌, reverse, string_bytes}
use Rattle.std.specs.Prelude.{codes}
use Rattle.tokens.specs.Bytes.{spelled}
use Rattle.bench.proofs.registers.regs_line.Given as goal

-- What is left, behind the text so far, gives all.
abbrev pub invariant-loop-byte : goal.invariant-loop-byte
invariant-loop-byte g l = string_bytes l.text ++ spelled (reverse l.byte-iterator.iter.rest.now) ≡ codes "regs = " ++ spelled (reverse l.initial.byte-iterator.iter.rest.now)
