use Rattle.std.proofs.Common.{codes, refl, arith}
use Rattle.std.specs.Str.Iter.{LacksByte}
use Rattle.tokens.specs.Bytes.{shown_bytes}
use Rattle.tokens.proofs.Blanks.{parted, lacks_told}
use Rattle.tokens.proofs.Exits.{refused, handed_on}
use Rattle.arrivals.proofs.NoArrivals.{no_receive}
use Rattle.tokens.proofs.Settings.{behind_key, behind_setting}
use Rattle.arrivals.proofs.words.receive.Goals as goal

depth : LacksByte 32 (codes "depth=")
depth = lacks_told (codes "depth=") refl

size : LacksByte 32 (codes "msglen=")
size = lacks_told (codes "msglen=") refl

pub returns-in_err-depth : goal.returns-in_err-depth
returns-in_err-depth c =
    refused _ _ c.from_residual-in_err-depth.ensures.0
    (no_receive _ (λ id d n block plain low small ok e.
    c.in_err-depth.ensures.told depth d _ (omega arith) (parted c.in_ok-id.ensures _ _ plain e).1))

pub returns-in_err-length : goal.returns-in_err-length
returns-in_err-length c =
    refused _ _ c.from_residual-in_err-length.ensures.0
    (no_receive _ (λ id d n block plain low small ok e.
    let p = (parted c.in_ok-id.ensures _ _ plain e).1 in
    c.in_err-length.ensures.told size n _ small (behind_setting (codes "depth=") _ depth (omega arith) c.in_ok-depth.ensures.told (omega arith) p)))

pub returns-in_err-keyed : goal.returns-in_err-keyed
returns-in_err-keyed c =
    refused _ _ c.from_residual-in_err-keyed.ensures.0
    (no_receive _ (λ id d n block plain low small ok e.
    let p = (parted c.in_ok-id.ensures _ _ plain e).1 in
    let q = behind_setting (codes "depth=") _ depth (omega arith) c.in_ok-depth.ensures.told (omega arith) p in
    c.in_err-keyed.ensures.1 (shown_bytes block) (behind_setting (codes "msglen=") _ size (omega arith) c.in_ok-length.ensures.told small q)))

pub returns-in_err-block : goal.returns-in_err-block
returns-in_err-block c =
    handed_on _ c.from_residual-in_err-block.result c.from_residual-in_err-block.ensures.1 c.in_err-block.ensures
    (λ none. no_receive _ (λ id d n block plain low small ok e.
    let p = (parted c.in_ok-id.ensures _ _ plain e).1 in
    let q = behind_setting (codes "depth=") _ depth (omega arith) c.in_ok-depth.ensures.told (omega arith) p in
    let last = behind_setting (codes "msglen=") _ size (omega arith) c.in_ok-length.ensures.told small q in
    none block ok (behind_key c.in_ok-keyed.ensures (shown_bytes block) last)))
