use Rattle.std.proofs.Common.{◌≡◌, Ok, ap, ◌∙◌, arith}
use Rattle.packet.specs.Packets.{Packet}
use Rattle.packet.specs.Reading.{told, packet, size}
use Rattle.packet.proofs.Items.{counted_more}
use Rattle.packet.proofs.counting.count_packets.Goals as goal

pub loop-packets-preserved : goal.loop-packets-preserved
loop-packets-preserved c =
    let answered = c.in_ok-next.ensures in
    let inv = c.loop-packets.invariant in
    let message = c.args.message.now in
    let p = c.loop-packets.walk.place in
    let q = c.in-Packet.place in
    let s = told (Ok c.in_ok-next.field-0) in
    let x : Packet = record { feed = c.in-Packet.feed; label = c.in-Packet.label.now; body = c.in-Packet.data.now } in
    let is : s ≡ packet x q = ap (λ i. told (Ok i)) c.in-Packet.is in
    let long : size s ≡ size (packet x q) = ap size is in (
      answered.over ∙ inv.0,
      omega (arith, answered.after, long),
      counted_more c.loop-packets.packets p c.next.new.self.place c.loop-packets.walk.message.now message s x q inv.0 answered.answer answered.after is ∙ inv.2,
    )
