-- The lanes of a block read one by one: the start, one lane more, the end, and a lane that has no codeword.
use Rattle.std.proofs.Common.{◌≡◌, ℕ, ◌+◌, ◌/◌, ◌*◌, ◌%◌, ◌<◌, ◌≤◌, cond, eqb, ◌⊎◌, List, length, get_or, take, sym, refl, ap, ◌∙◌, subst, ap₂, inl, inr, add-one, arith, eq-eqb, ne_eqb}
use Rattle.std.proofs.lemmas.Nat.{div-add-mod', div_below, mod_below}
use Rattle.std.proofs.lemmas.List.{length-take-le, get_or-take}
use Rattle.std.proofs.lemmas.Bool.{cases_eq}
use Rattle.polynomial.specs.Words.{distance}
use Rattle.code.specs.Code.{telemetry}
use Rattle.dual_form.specs.DualForm.{dual_ops}
use Rattle.dual_form.specs.declared.element.Dual.{Dual}
use Rattle.locator.specs.Correction.{Near}
use Rattle.block.specs.Lanes.{word}
use Rattle.reception.specs.Messages.{message_length, total}
use Rattle.reception.specs.Reception.{Corrected, Lost}
use Rattle.reception.proofs.Totals.{total_same}
use Rattle.reception.proofs.Messages.{message_filled}
use Rattle.receiver.specs.Lanes.{Stands, OthersKept, LaneRead, LanesRead}

module _ (d : ℕ) (block : List ℕ) where
  pub read_none : (message : List ℕ) → LanesRead d block 0 0 message
  unfolding total
  read_none message = record { words = λ _. word d block 0; near = λ l h. absurd (omega arith); counted = refl; stand = λ l h. absurd (omega arith) }

  -- The words with one more, that of the lane n.
  abbrev with_word : (ℕ → List Dual) → ℕ → List Dual → ℕ → List Dual
  with_word words n w l = cond (eqb l n) w (words l)

  here : (words : ℕ → List Dual) (n : ℕ) (w : List Dual) → with_word words n w n ≡ w
  here words n w = ap (λ t. cond t w (words n)) (eq-eqb n n refl)

  elsewhere : (words : ℕ → List Dual) (n : ℕ) (w : List Dual) (l : ℕ) → (l ≡ n → ⊥) → with_word words n w l ≡ words l
  elsewhere words n w l other = ap (λ t. cond t w (words l)) (ne_eqb l n other)

  -- What holds of the word of each lane before n and of that of the lane n.
  each : (P : ℕ → List Dual → Type 0) (words : ℕ → List Dual) (n : ℕ) (w : List Dual) → ((l : ℕ) → l < n → P l (words l)) → P n w
      → (l : ℕ) → l < n + 1 → P l (with_word words n w l)
  each P words n w before last l h = at (cases_eq l n)
    where
      at : (l ≡ n) ⊎ (l ≡ n → ⊥) → P l (with_word words n w l)
      at (inl same) = subst (λ k. P k (with_word words n w k)) (sym same) (subst (P n) (sym (here words n w)) last)
      at (inr other) = subst (P l) (sym (elsewhere words n w l other)) (before l (omega arith))

  -- The codeword of the lane n stands in the message, and the other lanes are as they were.
  pub read_more : (n : ℕ) (message after : List ℕ) (w : List Dual) → n < d → Near dual_ops telemetry (word d block n) w → Stands d n w after
      → OthersKept d n message after → LaneRead d block n (distance dual_ops (word d block n) w) message after
  unfolding total
  read_more n message after w inside near stands others = record {
    few = omega (arith, near.close);
    more = λ wrong read.
        let words = with_word read.words n w in
        let apart : ℕ → List Dual → ℕ = λ l v. distance dual_ops (word d block l) v in
        record {
          words = words;
          near = each (λ l v. Near dual_ops telemetry (word d block l) v) read.words n w read.near near;
          counted =
              ap₂ ◌+◌ (read.counted ∙ total_same n (λ l. apart l (read.words l)) (λ l. apart l (words l))
              (λ l h. ap (apart l) (sym (elsewhere read.words n w l (λ e. omega arith)))))
              (ap (apart n) (sym (here read.words n w)))
              ∙ ap (λ k. total k (λ l. apart l (words l))) (sym (add-one n));
          stand = each (λ l v. Stands d l v after) read.words n w (λ l h i row. others i l row (omega arith) (λ e. omega arith) ∙ read.stand l h i row) stands;
        };
  }

  pub read_all : (n wrong : ℕ) (message : List ℕ) → n ≡ d → message_length d ≤ length message → LanesRead d block n wrong message
      → Corrected d block wrong (take (message_length d) message)
  read_all n wrong message whole long read = record {
    words = read.words;
    near = λ l h. read.near l (omega arith);
    counted = read.counted ∙ ap (λ k. total k (λ l. distance dual_ops (word d block l) (read.words l))) whole;
    written = message_filled d read.words (take (223 * d) message) (length-take-le (223 * d) message long)
        (λ m h.
        let some : 0 < d = omega arith in
        get_or-take (223 * d) message m 0 h
        ∙ ap (λ p. get_or message p 0) (sym (div-add-mod' m d))
        ∙ read.stand (m % d) (omega (arith, mod_below m d some)) (m / d) (div_below m d 223 some h));
  }

  pub read_lost : (n wrong : ℕ) (message : List ℕ) → n < d → LanesRead d block n wrong message → ((w : List Dual) → Near dual_ops telemetry (word d block n) w → ⊥) → Lost d block n
  read_lost n wrong message inside read none = record { inside = inside; none = none; lowest = λ k h. (read.words k, read.near k h) }
