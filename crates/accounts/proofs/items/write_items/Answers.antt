use Rattle.std.proofs.Common.{◌≡◌, ◌∙◌, rules}
use Rattle.packet.specs.Packets.{Packet}
use Rattle.packet.specs.Reading.{told, packet}
use Rattle.accounts.proofs.Written.{packet_written}
use Rattle.accounts.proofs.items.write_items.Goals as goal

pub loop-preserved : goal.loop-preserved
loop-preserved c =
    let answered = c.next-step.ensures in
    let inv = c.loop.invariant in
    let read = c.in-Ok-Packet in
    let x : Packet = record { feed = read.field-0-0; label = read.field-0-1.now; body = read.field-0-2.now } in
    let is : told c.next-step.result ≡ packet x read.field-0-3 = search rules in (
      answered.over ∙ inv.0,
      packet_written _ read.field-0-3 _ _ _ _ _ _ x _ inv.0 is answered.answer answered.after inv.1 c.in_ok-write_step.ensures,
    )
