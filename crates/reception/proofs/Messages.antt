-- The message of words: its bytes, and when two are the same.
use Rattle.std.proofs.Common.{◌≡◌, ℕ, zero, suc, ◌-◌, ◌*◌, ◌/◌, ◌%◌, ◌<◌, List, [], ◌∷◌, length, get_or, take, sym, ap, ◌∙◌, zero-add, arith}
use Rattle.std.proofs.lemmas.Nat.{mod_below}
use Rattle.std.proofs.lemmas.List.FromFn.{fill_by_all, get_or-map-range_with_len, length-map-range_with_len}
use Rattle.std.proofs.lemmas.List.{length-take-le, get_or-take}
use Rattle.polynomial.specs.Coefficients.{coeff}
use Rattle.dual_form.specs.DualForm.{dual_ops}
use Rattle.dual_form.specs.declared.element.Dual.{Dual}
use Rattle.block.specs.Depths.{block_length}
use Rattle.block.specs.Lanes.{word}
use Rattle.block.proofs.Places.{interleaved}
use Rattle.packet.specs.Packets.{Bytes}
use Rattle.reception.specs.Messages.{message_length, message_of}

pub length_message : (d : ℕ) (words : ℕ → List Dual) → length (message_of d words) ≡ 223 * d
unfolding message_of
length_message d words = length-map-range_with_len (λ m. (coeff dual_ops (words (m % d)) (254 - m / d)).byte) 0 (223 * d)

pub message_at : (d : ℕ) (words : ℕ → List Dual) (m : ℕ) → m < 223 * d → get_or (message_of d words) m 0 ≡ (coeff dual_ops (words (m % d)) (254 - m / d)).byte
unfolding message_of
message_at d words m h = get_or-map-range_with_len (λ m. (coeff dual_ops (words (m % d)) (254 - m / d)).byte) 0 (223 * d) m m 0 h (zero-add m)

-- A list that has the right bytes is the message.
pub message_filled : (d : ℕ) (words : ℕ → List Dual) (xs : List ℕ) → length xs ≡ 223 * d
    → ((m : ℕ) → m < 223 * d → get_or xs m 0 ≡ (coeff dual_ops (words (m % d)) (254 - m / d)).byte) → xs ≡ message_of d words
unfolding message_of
message_filled d words xs long each = fill_by_all (λ m. (coeff dual_ops (words (m % d)) (254 - m / d)).byte) xs (223 * d) 0 long each

some_lanes : (m d : ℕ) → m < 223 * d → 0 < d
some_lanes m d h = omega arith

pub message_same : (d : ℕ) (v w : ℕ → List Dual) → ((l : ℕ) → l < d → v l ≡ w l) → message_of d v ≡ message_of d w
message_same d v w same =
    message_filled d w (message_of d v) (length_message d v)
    (λ m h. message_at d v m h ∙ ap (λ u. (coeff dual_ops u (254 - m / d)).byte) (same (m % d) (mod_below m d (some_lanes m d h))))

byte_at : (xs : List ℕ) (i : ℕ) → Bytes xs → get_or xs i 0 < 256
byte_at [] i b = omega arith
byte_at (x ∷ xs) zero b = b.0
byte_at (x ∷ xs) (suc i) b = byte_at xs i b.1

-- The message of a block's own lanes is its first bytes.
pub message_sent : (d : ℕ) (sent : List ℕ) → length sent ≡ block_length d → Bytes sent → message_of d (word d sent) ≡ take (message_length d) sent
unfolding coeff
message_sent d sent long bytes =
    sym (message_filled d (word d sent) (take (223 * d) sent) (length-take-le (223 * d) sent (omega arith))
    (λ m h.
    let low : get_or sent m 0 ≡ get_or sent m 0 % 256 = omega (arith, byte_at sent m bytes) in
    get_or-take (223 * d) sent m 0 h ∙ low ∙ ap (λ x. x.byte) (sym (interleaved d sent m (some_lanes m d h) long (omega arith)))))
