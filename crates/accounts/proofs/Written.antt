-- Texts that grow piece by piece.
use Rattle.std.proofs.Common.{◌≡◌, ℕ, ◌+◌, ◌<◌, List, ◌∷◌, ◌++◌, length, get_or, take, sym, ap, ◌∙◌, append_assoc}
use Rattle.std.proofs.lemmas.List.{take_more}
use Rattle.tokens.specs.Bytes.{two_digits, spelled}
use Rattle.tokens.proofs.Digits.{spelled_push}
use Rattle.packet.specs.Packets.{Packet}
use Rattle.packet.specs.Reading.{Step, packet, step_at, size}
use Rattle.packet.specs.Items.{items_at}
use Rattle.packet.proofs.Items.{items_behind}
use Rattle.accounts.specs.Next.{shown_step, parted}

-- One byte more is written.
pub digits_more : (before text after bytes : List ℕ) (i : ℕ) → i < length bytes → text ≡ before ++ spelled (take i bytes) → after ≡ text ++ two_digits (get_or bytes i 0)
    → after ≡ before ++ spelled (take (i + 1) bytes)
digits_more before text after bytes i inside so_far e =
    let b = get_or bytes i 0 in
    e ∙ ap (λ t. t ++ two_digits b) so_far ∙ append_assoc before (spelled (take i bytes)) (two_digits b)
    ∙ ap (λ l. before ++ l) (sym (spelled_push (take i bytes) b) ∙ ap spelled (sym (take_more bytes i 0 inside)))

-- A packet is written, and the items behind it follow.
pub packet_written :
    (p q r : ℕ) (before message text after whole : List ℕ) (x : Packet) (s : Step) → before ≡ message → s ≡ packet x q → s ≡ step_at p before → r ≡ p + size s
    → text ++ parted (items_at p message) ≡ whole → after ≡ text ++ (32 ∷ shown_step s) → after ++ parted (items_at r message) ≡ whole
packet_written p q r before message text after whole x s kept is step moved so_far e =
    let at : step_at p message ≡ packet x q = ap (step_at p) (sym kept) ∙ sym step ∙ is in
    ap (λ t. t ++ parted (items_at r message)) (e ∙ ap (λ t. text ++ (32 ∷ shown_step t)) is)
    ∙ append_assoc text (32 ∷ shown_step (packet x q)) (parted (items_at r message))
    ∙ ap (λ l. text ++ l)
    (ap (λ n. 32 ∷ shown_step (packet x q) ++ parted (items_at n message)) (moved ∙ ap (λ t. p + size t) is) ∙ sym (ap parted (items_behind p message x q at)))
    ∙ so_far
