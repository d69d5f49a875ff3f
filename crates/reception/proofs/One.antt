-- At most one answer and one message are right.
use Rattle.std.proofs.Common.{◌≡◌, ℕ, ◌<◌, List, Some, None, Option, sym, refl, ap, ◌∙◌, ap₂, inl, inr, ⊎_elim}
use Rattle.std.proofs.lemmas.Bool.{cases_order}
use Rattle.field.proofs.Ring.{Lawful}
use Rattle.polynomial.specs.Words.{distance}
use Rattle.code.specs.Code.{telemetry}
use Rattle.generator.proofs.Computed.{generators}
use Rattle.dual_form.specs.DualForm.{dual_ops}
use Rattle.dual_form.specs.declared.element.Dual.{Dual}
use Rattle.dual_form.specs.DualLaws.{dual_laws}
use Rattle.locator.specs.Correction.{Near}
use Rattle.locator.proofs.Corrected.{corrections}
use Rattle.block.specs.Lanes.{word}
use Rattle.packet.specs.Items.{count_of}
use Rattle.reception.specs.Faults.{refusal_of}
use Rattle.reception.specs.Messages.{message_of, total}
use Rattle.reception.specs.Reception.{Answer, refused, Corrected, Lost, walked, Received, argument_fault}
use Rattle.reception.specs.Laws.{OneCodeword, OneAnswer}
use Rattle.reception.specs.declared.fault.ReceiveFault.{ReceiveFault}
use Rattle.reception.specs.declared.fault.ReceiveFault.TheVariants.{Lane}
use Rattle.reception.proofs.Totals.{total_same}
use Rattle.reception.proofs.Messages.{message_same}

-- The dual form with its laws.
abbrev pub dual_field : Lawful Dual
dual_field = record { ops = dual_ops; laws = dual_laws }

pub one_codeword : OneCodeword
one_codeword = (corrections dual_field telemetry ((generators dual_field).telemetry_fits refl)).one

module _ (d : ℕ) (block : List ℕ) where
  module _ {wrong : ℕ} {message : List ℕ} (c : Corrected d block wrong message) (words : ℕ → List Dual)
      (near : (l : ℕ) → l < d → Near dual_ops telemetry (word d block l) (words l)) where
    pub same_words : (l : ℕ) → l < d → c.words l ≡ words l
    same_words l h = one_codeword (word d block l) (c.words l) (words l) (c.near l h) (near l h)

    pub same_wrong : wrong ≡ total d (λ l. distance dual_ops (word d block l) (words l))
    same_wrong =
        c.counted
        ∙ total_same d (λ l. distance dual_ops (word d block l) (c.words l)) (λ l. distance dual_ops (word d block l) (words l))
        (λ l h. ap (distance dual_ops (word d block l)) (same_words l h))

    pub same_message : message ≡ message_of d words
    same_message = c.written ∙ message_same d c.words words same_words

  pub not_lost : {wrong l : ℕ} {message : List ℕ} → Corrected d block wrong message → Lost d block l → ⊥
  not_lost {l = l} c lost = lost.none (c.words l) (c.near l lost.inside)

  lower : {l l' : ℕ} → Lost d block l → Lost d block l' → l < l' → ⊥
  lower {l} lost lost' h = lost.none (lost'.lowest l h).0 (lost'.lowest l h).1

  same_lost : {l l' : ℕ} → Lost d block l → Lost d block l' → l ≡ l'
  same_lost {l} {l'} p q = ⊎_elim (λ e. e) (λ s. ⊎_elim (λ h. absurd (lower p q h)) (λ h. absurd (lower q p h)) s) (cases_order l l')

  one : (f : Option ReceiveFault) (before : List ℕ) (a a' : Answer) (message message' : List ℕ)
      → Received f d block before a message → Received f d block before a' message' → (a ≡ a') × (message ≡ message')
  one (Some f) before a a' message message' p q = (p.0 ∙ sym q.0, p.1 ∙ sym q.1)
  one None before a a' message message' (inl p) (inl q) =
      let words = q.corrected.words in
      let near = q.corrected.near in
      let wrong : p.wrong ≡ q.wrong = same_wrong p.corrected words near ∙ sym q.corrected.counted in
      let same : message ≡ message' = same_message p.corrected words near ∙ sym q.corrected.written in
      (p.answered ∙ ap₂ (λ n m. walked n (count_of m)) wrong same ∙ sym q.answered, same)
  one None before a a' message message' (inl p) (inr q) = absurd (not_lost p.corrected q.lost)
  one None before a a' message message' (inr p) (inl q) = absurd (not_lost q.corrected p.lost)
  one None before a a' message message' (inr p) (inr q) =
      (p.answered ∙ ap (λ l. refused (refusal_of (Lane (record { lane = l })))) (same_lost p.lost q.lost) ∙ sym q.answered, p.kept ∙ sym q.kept)

pub one_answer : OneAnswer
one_answer d block before = one d block (argument_fault d block before) before
