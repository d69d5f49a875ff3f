-- The items of a message from a place on: the first of them, and those behind it.
use Rattle.std.proofs.Common.{◌≡◌, ℕ, zero, suc, ◌+◌, ◌≤◌, List, [], ◌∷◌, length, drop, sym, refl, ap, ◌∙◌, add-zero, arith}
use Rattle.std.proofs.lemmas.List.{drop-drop, length-drop}
use Rattle.packet.specs.Packets.{Packet}
use Rattle.packet.specs.Reading.{Step, packet, end, fault, from_feed, step_at, size}
use Rattle.packet.specs.Items.{with_rest, items_from, items_at, counted}
use Rattle.packet.proofs.Steps.{from_feed_inside}

-- The bytes that belong to the packet before are passed over.
pub items_skip : (k p : ℕ) (bs : List ℕ) → k ≤ length bs → items_from k p bs ≡ items_from 0 (p + k) (drop k bs)
items_skip zero p bs h = ap (λ q. items_from 0 q bs) (sym (add-zero p))
items_skip (suc k) p [] h = absurd (omega arith)
items_skip (suc k) p (b ∷ bs) h =
    let e : p + 1 + k ≡ p + suc k = omega arith in
    items_skip k (p + 1) bs (omega arith) ∙ ap (λ q. items_from 0 q (drop k bs)) e

items_first : (p : ℕ) (bs : List ℕ) → items_from 0 p bs ≡ with_rest (from_feed p bs) (λ k. items_from k (p + 1) (drop 1 bs))
items_first p [] = refl
items_first p (b ∷ bs) = refl

-- A packet at the front is followed by the items behind it.
pub items_more :
    (p : ℕ) (bs : List ℕ) (x : Packet) (q : ℕ) → from_feed p bs ≡ packet x q
    → items_from 0 p bs ≡ packet x q ∷ items_from 0 (p + size (packet x q)) (drop (size (packet x q)) bs)
items_more p bs x q e =
    let n = 2 + length x.label + length x.body in
    let long : size (from_feed p bs) ≡ size (packet x q) = ap size e in
    let fit : n ≤ length (drop 1 bs) = omega (arith, long, from_feed_inside p bs, length-drop 1 bs) in
    let at : p + 1 + n ≡ p + size (packet x q) = omega arith in
    let past : 1 + n ≡ size (packet x q) = omega arith in
    items_first p bs ∙ ap (λ s. with_rest s (λ k. items_from k (p + 1) (drop 1 bs))) e
    ∙ ap (λ ys. packet x q ∷ ys) (items_skip n (p + 1) (drop 1 bs) fit ∙ ap (items_from 0 (p + 1 + n)) (drop-drop n 1 bs) ∙ (λ i. items_from 0 (at i) (drop (past i) bs)))

-- The end and a fault are the last item.
pub items_done : (p : ℕ) (bs : List ℕ) (s : Step) → from_feed p bs ≡ s → size s ≡ 0 → items_from 0 p bs ≡ s ∷ []
items_done p bs (packet x q) e none = absurd (omega arith)
items_done p bs (end q) e none = items_first p bs ∙ ap (λ s. with_rest s (λ k. items_from k (p + 1) (drop 1 bs))) e
items_done p bs (fault f) e none = items_first p bs ∙ ap (λ s. with_rest s (λ k. items_from k (p + 1) (drop 1 bs))) e

-- Both at a place of a message.
pub items_behind :
    (p : ℕ) (message : List ℕ) (x : Packet) (q : ℕ) → step_at p message ≡ packet x q → items_at p message ≡ packet x q ∷ items_at (p + size (packet x q)) message
items_behind p message x q e =
    items_more p (drop p message) x q e
    ∙ ap (λ bs. packet x q ∷ items_from 0 (p + size (packet x q)) bs) (drop-drop (size (packet x q)) p message)

pub items_last : (p : ℕ) (message : List ℕ) (s : Step) → step_at p message ≡ s → size s ≡ 0 → items_at p message ≡ s ∷ []
items_last p message s e none = items_done p (drop p message) s e none

-- A packet that is read is counted.
pub counted_more :
    (n p r : ℕ) (before message : List ℕ) (s : Step) (x : Packet) (q : ℕ) → before ≡ message → s ≡ step_at p before → r ≡ p + size s → s ≡ packet x q
    → counted (n + 1) (items_at r message) ≡ counted n (items_at p message)
counted_more n p r before message s x q kept e moved is =
    let at : step_at p message ≡ packet x q = ap (step_at p) (sym kept) ∙ sym e ∙ is in
    ap (λ t. counted (n + 1) (items_at t message)) (moved ∙ ap (λ t. p + size t) is) ∙ sym (ap (counted n) (items_behind p message x q at))
