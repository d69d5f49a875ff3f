-- A check accepts a block exactly when correction finds no wrong symbol.
use Rattle.std.proofs.Common.{◌≡◌, ℕ, suc, ◌<◌, Bool, true, false, cond, eqb, List, [], ◌∷◌, length, Some, None, Ok, Err, Option, Result, sym, refl, ◌∙◌, subst, ap₂, inl, inr, arith, eqb-true}
use Rattle.field.proofs.Ring.{Lawful}
use Rattle.polynomial.specs.Words.{distance}
use Rattle.code.specs.Code.{telemetry, Codeword}
use Rattle.dual_form.specs.DualForm.{dual_ops}
use Rattle.locator.specs.Correction.{Near}
use Rattle.locator.proofs.Refusals.{distance_self, near_itself}
use Rattle.block.specs.Depths.{is_depth, block_length}
use Rattle.block.specs.Lanes.{word}
use Rattle.block.specs.Verdicts.{check_of, Sound}
use Rattle.block.specs.declared.fault.BlockFault.TheVariants.{NoDepth, BlockLength}
use Rattle.block.proofs.Found.{accepts}
use Rattle.block.proofs.Places.{length_word}
use Rattle.packet.specs.Items.{count_of}
use Rattle.packet.specs.declared.fault.PacketFault.{PacketFault}
use Rattle.reception.specs.Messages.{message_length, message_of}
use Rattle.reception.specs.Reception.{success, unless, argument_fault, Corrected, walked, Received}
use Rattle.reception.specs.Laws.{CheckAgrees}
use Rattle.reception.specs.declared.fault.ReceiveFault.{ReceiveFault}
use Rattle.reception.specs.declared.fault.ReceiveFault.TheVariants.{Block, MessageLength}
use Rattle.reception.proofs.Totals.{total_same, total_zeros, total_zero}
use Rattle.reception.proofs.One.{dual_field, same_wrong}

-- Words of one length that differ in no place are the same.
no_distance : {K : Type 0} (F : Lawful K) (v w : List K) → length v ≡ length w → distance F.ops v w ≡ 0 → v ≡ w
unfolding distance
no_distance F [] [] l e = refl
no_distance F [] (b ∷ w) l e = absurd (omega arith)
no_distance F (a ∷ v) [] l e = absurd (omega arith)
no_distance F (a ∷ v) (b ∷ w) l e = go (F.ops.same a b) refl e (no_distance F v w (omega arith))
  where
    go : (t : Bool) → F.ops.same a b ≡ t → cond t (distance F.ops v w) (suc (distance F.ops v w)) ≡ 0 → (distance F.ops v w ≡ 0 → v ≡ w) → a ∷ v ≡ b ∷ w
    go true s e rest = ap₂ ◌∷◌ ((F.laws.sameness a b).0 s) (rest e)
    go false s e rest = absurd (omega arith)

-- The count of a success is the one that the walk was given.
same_count : (wrong packets n : ℕ) (r : Result ℕ PacketFault) → success wrong packets ≡ walked n r → wrong ≡ n
same_count wrong packets n (Ok k) e = cc
same_count wrong packets n (Err f) e = cc

-- Arguments without a fault are right.
arguments_right : (d : ℕ) (block before : List ℕ) → argument_fault d block before ≡ None → (is_depth d ≡ true) × (length block ≡ block_length d)
arguments_right d block before e = at (is_depth d) (eqb (length block) (block_length d)) refl refl e
  where
    at : (known long : Bool) → is_depth d ≡ known → eqb (length block) (block_length d) ≡ long
        → unless known (Block NoDepth) (unless long (Block BlockLength) (unless (eqb (length before) (message_length d)) MessageLength None)) ≡ None
        → (is_depth d ≡ true) × (length block ≡ block_length d)
    at true true known long e = (known, eqb-true (length block) (block_length d) long)
    at true false known long e = cc
    at false long known is e = cc

module _ (d : ℕ) (block : List ℕ) where
  sound_near : Sound block d → (l : ℕ) → l < d → Near dual_ops telemetry (word d block l) (word d block l)
  sound_near sound l h = near_itself dual_field telemetry (word d block l) (length_word d block l) (sound.lanes l h).zero_at_roots

  sound_corrected : Sound block d → Corrected d block 0 (message_of d (word d block))
  sound_corrected sound = record {
    words = word d block;
    near = sound_near sound;
    counted = sym (total_same d (λ l. distance dual_ops (word d block l) (word d block l)) (λ l. 0) (λ l h. distance_self dual_field (word d block l)) ∙ total_zeros d);
    written = refl;
  }

  own_lanes : (message : List ℕ) (c : Corrected d block 0 message) (l : ℕ) → l < d → c.words l ≡ word d block l
  own_lanes message c l h =
      sym (no_distance dual_field (word d block l) (c.words l) (length_word d block l ∙ sym (c.near l h).codeword.long)
      (total_zero d (λ k. distance dual_ops (word d block k) (c.words k)) (sym c.counted) l h))

  corrected_sound : is_depth d ≡ true → length block ≡ block_length d → (message : List ℕ) → Corrected d block 0 message → Sound block d
  corrected_sound depth long message c = record {
    depth = depth;
    long = long;
    lanes = λ l h. subst (Codeword dual_ops telemetry) (own_lanes message c l h) (c.near l h).codeword;
  }

  -- The wrong symbols of a success are those of the corrected lanes.
  success_read : (f : Option ReceiveFault) (before message : List ℕ) (wrong packets : ℕ) → argument_fault d block before ≡ f
      → Received f d block before (success wrong packets) message
      → (is_depth d ≡ true) × (length block ≡ block_length d) × Corrected d block wrong message
  success_read (Some f) before message wrong packets e r = let e = r.0 in cc
  success_read None before message wrong packets e (inl r) =
      let right = arguments_right d block before e in
      (right.0, right.1, subst (λ n. Corrected d block n message) (sym (same_count wrong packets r.wrong (count_of message) r.answered)) r.corrected)
  success_read None before message wrong packets e (inr r) = let e = r.answered in cc

pub check_agrees : CheckAgrees
check_agrees d block =
    let says = accepts d block (check_of block d) refl in
    record {
      near_itself = λ e. sound_near d block (says.only_codewords e);
      none_wrong = λ e. sound_corrected d block (says.only_codewords e);
      accepted = λ depth long message c. says.every_codeword (corrected_sound d block depth long message c);
      same_lanes = own_lanes d block;
      success_accepted = λ before message packets r.
          let read = success_read d block (argument_fault d block before) before message 0 packets refl r in
          says.every_codeword (corrected_sound d block read.0 read.1 message read.2);
      accepted_success = λ e before message wrong packets r.
          let read = success_read d block (argument_fault d block before) before message wrong packets refl r in
          let clean = sound_corrected d block (says.only_codewords e) in
          same_wrong d block read.2 clean.words clean.near ∙ sym clean.counted;
    }
