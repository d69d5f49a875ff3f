-- The bytes behind the end, and that what stands at the front of bytes takes no more of them than there are.
use Rattle.std.proofs.Common.{◌≡◌, ℕ, ◌+◌, ◌<◌, ◌≤◌, zero, suc, eqb, ltb, List, [], ◌∷◌, length, get_or, take, drop, refl, ap, ◌∙◌, add-zero, arith, ltb-false, eq-eqb, ne_eqb}
use Rattle.std.proofs.lemmas.List.{length-take, length-drop}
use Rattle.std.proofs.lemmas.Bool.{cond_both}
use Rattle.packet.specs.Packets.{longest_label}
use Rattle.packet.specs.Reading.{packet, end, fault, filled, from_data, from_label, from_feed, step_at, size}
use Rattle.packet.specs.declared.fault.PacketFault.TheVariants.{LabelCount, NoData, PastEnd, AfterEnd}

-- Every byte is 00.
pub filled_all : (p q : ℕ) (bs : List ℕ) → ((k : ℕ) → k < length bs → get_or bs k 0 ≡ 0) → filled p q bs ≡ end p
filled_all p q [] zeros = refl
filled_all p q (b ∷ bs) zeros = rw (eq-eqb b 0 (zeros 0 (omega arith))) (filled_all p (q + 1) bs (λ k h. zeros (suc k) (omega arith)))

-- The byte i is the first that is not 00.
pub filled_stop : (p q : ℕ) (bs : List ℕ) (i : ℕ) → i < length bs → (get_or bs i 0 ≡ 0 → ⊥) → ((k : ℕ) → k < i → get_or bs k 0 ≡ 0) → filled p q bs ≡ fault (AfterEnd (q + i))
filled_stop p q [] i inside other zeros = absurd (omega arith)
filled_stop p q (b ∷ bs) zero inside other zeros = rw (ne_eqb b 0 other, add-zero)
filled_stop p q (b ∷ bs) (suc i) inside other zeros =
    let at : q + 1 + i ≡ q + suc i = omega arith in
    rw (eq-eqb b 0 (zeros 0 (omega arith))) (filled_stop p (q + 1) bs i (omega arith) other (λ k h. zeros (suc k) (omega arith)) ∙ ap (λ n. fault (AfterEnd n)) at)

-- What is read takes no more bytes than there are.
from_data_inside : (p f : ℕ) (label bs : List ℕ) → size (from_data p f label bs) ≤ 2 + length label + length bs
from_data_inside p f label [] = omega arith
from_data_inside p f label (n ∷ bs) =
    cond_both (eqb n 0) (fault (NoData (p + 2 + length label))) _ (λ s. size s ≤ 2 + length label + length (n ∷ bs)) (λ _. omega arith)
    (λ _. cond_both (ltb (length bs) n) (fault (PastEnd p)) (packet (record { feed = f; label = label; body = take n bs }) p) (λ s. size s ≤ 2 + length label + length (n ∷ bs))
    (λ _. omega arith) (λ _. simp length-take (omega arith)))

filled_takes_none : (p q : ℕ) (bs : List ℕ) → size (filled p q bs) ≡ 0
filled_takes_none p q [] = refl
filled_takes_none p q (b ∷ bs) = cond_both (eqb b 0) (filled p (q + 1) bs) (fault (AfterEnd q)) (λ s. size s ≡ 0) (λ _. filled_takes_none p (q + 1) bs) (λ _. refl)

from_label_inside : (p f : ℕ) (bs : List ℕ) → size (from_label p f bs) ≤ 1 + length bs
from_label_inside p f [] = omega arith
from_label_inside p f (n ∷ bs) =
    cond_both (ltb longest_label n) (fault (LabelCount (p + 1))) _ (λ s. size s ≤ 1 + length (n ∷ bs)) (λ _. omega arith)
    (λ _. cond_both (ltb (length bs) n) (fault (PastEnd p)) _ (λ s. size s ≤ 1 + length (n ∷ bs)) (λ _. omega arith)
    (λ e. omega (arith, ltb-false (length bs) n e, from_data_inside p f (take n bs) (drop n bs), length-take n bs, length-drop n bs)))

pub from_feed_inside : (p : ℕ) (bs : List ℕ) → size (from_feed p bs) ≤ length bs
from_feed_inside p [] = omega arith
from_feed_inside p (f ∷ bs) =
    cond_both (eqb f 0) (filled p (p + 1) bs) (from_label p f bs) (λ s. size s ≤ length (f ∷ bs)) (λ _. omega (arith, filled_takes_none p (p + 1) bs))
    (λ _. omega (arith, from_label_inside p f bs))

-- What stands at a place of a message does not pass the message's end.
pub step_inside : (p : ℕ) (message : List ℕ) → p ≤ length message → p + size (step_at p message) ≤ length message
step_inside p message h = omega (arith, from_feed_inside p (drop p message), length-drop p message)
