use Rattle.std.proofs.Common.{◌≡◌, ◌+◌, take, string_bytes}
use Rattle.generator.specs.Text.{joined}
use Rattle.generator.proofs.exponents.line.Given as goal

abbrev pub invariant-loop-exponent : goal.invariant-loop-exponent
invariant-loop-exponent l = string_bytes l.text ≡ joined (take (l.exponent-index + 1) l.exponents)
