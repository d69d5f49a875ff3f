use Rattle.std.proofs.Common.{codes, refl, arith}
use Rattle.std.specs.Str.Iter.{LacksByte}
use Rattle.tokens.specs.Bytes.{shown_bytes}
use Rattle.tokens.proofs.Blanks.{parted, lacks_told}
use Rattle.tokens.proofs.Exits.{refused, handed_on}
use Rattle.tokens.proofs.Settings.{behind_key, behind_setting}
use Rattle.requests.proofs.NoRequests.{no_check}
use Rattle.requests.proofs.read.check.Goals as goal

depth : LacksByte 32 (codes "depth=")
depth = lacks_told (codes "depth=") refl

pub returns-in_err-depth : goal.returns-in_err-depth
returns-in_err-depth c =
    refused _ _ c.from_residual-in_err-depth.ensures.0
    (no_check _ (λ id d bs plain small ok e. c.in_err-depth.ensures.told depth d _ (omega arith) (parted c.in_ok-id.ensures _ _ plain e).1))

pub returns-in_err-keyed : goal.returns-in_err-keyed
returns-in_err-keyed c =
    refused _ _ c.from_residual-in_err-keyed.ensures.0
    (no_check _ (λ id d bs plain small ok e.
    let p = (parted c.in_ok-id.ensures _ _ plain e).1 in
    c.in_err-keyed.ensures.1 (shown_bytes bs) (behind_setting (codes "depth=") _ depth (omega arith) c.in_ok-depth.ensures.told (omega arith) p)))

pub returns-in_err-block : goal.returns-in_err-block
returns-in_err-block c =
    handed_on _ c.from_residual-in_err-block.result c.from_residual-in_err-block.ensures.1 c.in_err-block.ensures
    (λ none. no_check _ (λ id d bs plain small ok e.
    let p = (parted c.in_ok-id.ensures _ _ plain e).1 in
    let q = behind_setting (codes "depth=") _ depth (omega arith) c.in_ok-depth.ensures.told (omega arith) p in
    none bs ok (behind_key c.in_ok-keyed.ensures (shown_bytes bs) q)))
