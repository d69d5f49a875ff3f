-- Damage of at most 16 symbols in each lane is undone.
use Rattle.std.proofs.Common.{◌≡◌, ℕ, ◌<◌, true, eqb, List, length, take, None, sym, refl, ap, ◌∙◌, subst, inl, arith, eq-eqb}
use Rattle.code.specs.Code.{telemetry}
use Rattle.dual_form.specs.DualForm.{dual_ops}
use Rattle.locator.specs.Correction.{Near}
use Rattle.block.specs.Depths.{is_depth, block_length}
use Rattle.block.specs.Lanes.{word}
use Rattle.block.specs.declared.fault.BlockFault.TheVariants.{NoDepth, BlockLength}
use Rattle.block.proofs.Places.{length_word}
use Rattle.packet.specs.Packets.{Packet}
use Rattle.packet.specs.Items.{items, count_of, placed}
use Rattle.packet.specs.Laws.{Consists}
use Rattle.packet.proofs.Back.{walks_back}
use Rattle.reception.specs.Messages.{message_length}
use Rattle.reception.specs.Reception.{Answer, success, unless, argument_fault, Corrected, walked, Received, Receives}
use Rattle.reception.specs.Laws.{altered, Damaged, Restores}
use Rattle.reception.specs.declared.fault.ReceiveFault.TheVariants.{Block, MessageLength}
use Rattle.reception.proofs.Lanes.{by_lanes}
use Rattle.reception.proofs.Messages.{message_sent}
use Rattle.reception.proofs.One.{one_answer}

-- The arguments have no fault.
pub no_fault : (d : ℕ) (block before : List ℕ) → is_depth d ≡ true → length block ≡ block_length d → length before ≡ message_length d → argument_fault d block before ≡ None
no_fault d block before depth long room =
    ap (λ t. unless t (Block NoDepth) (unless (eqb (length block) (block_length d)) (Block BlockLength) (unless (eqb (length before) (message_length d)) MessageLength None))) depth
    ∙ ap (λ t. unless t (Block BlockLength) (unless (eqb (length before) (message_length d)) MessageLength None)) (eq-eqb (length block) (block_length d) long)
    ∙ ap (λ t. unless t MessageLength None) (eq-eqb (length before) (message_length d) room)

module _ (d : ℕ) (sent block before : List ℕ) (damaged : Damaged d sent block) (room : length before ≡ message_length d) where
  near_sent : (l : ℕ) → l < d → Near dual_ops telemetry (word d block l) (word d sent l)
  near_sent l h = record { long = length_word d block l; codeword = damaged.sound.lanes l h; close = omega (arith, damaged.few l h) }

  corrected : Corrected d block (altered block sent) (take (message_length d) sent)
  corrected = record {
    words = word d sent;
    near = near_sent;
    counted = by_lanes d block sent damaged.long damaged.sound.long;
    written = sym (message_sent d sent damaged.sound.long damaged.bytes);
  }

  some : Receives d block before (walked (altered block sent) (count_of (take (message_length d) sent))) (take (message_length d) sent)
  some =
      subst (λ f. Received f d block before (walked (altered block sent) (count_of (take (message_length d) sent))) (take (message_length d) sent))
      (sym (no_fault d block before damaged.sound.depth damaged.long room)) (inl (record { wrong = altered block sent; corrected = corrected; answered = refl }))

  same : (a : Answer) (m : List ℕ) → Receives d block before a m → (a ≡ walked (altered block sent) (count_of (take (message_length d) sent))) × (m ≡ take (message_length d) sent)
  same a m r = one_answer d block before a (walked (altered block sent) (count_of (take (message_length d) sent))) m (take (message_length d) sent) r some

  packets : (ps : List Packet) → Consists (take (message_length d) sent) ps → (a : Answer) (m : List ℕ) → Receives d block before a m
      → (a ≡ success (altered block sent) (length ps)) × (items m ≡ placed 0 ps)
  packets ps consists a m r =
      let back = walks_back (take (message_length d) sent) ps consists in
      ((same a m r).0 ∙ ap (walked (altered block sent)) back.count, ap items (same a m r).1 ∙ back.packets)

pub restores : Restores
restores d sent block before damaged room = record {
  some = some d sent block before damaged room;
  same_answer = λ a m r. (same d sent block before damaged room a m r).0;
  same_message = λ a m r. (same d sent block before damaged room a m r).1;
  packets = packets d sent block before damaged room;
}
