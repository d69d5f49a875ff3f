-- The walk gives packets back from their symbols.
use Rattle.std.proofs.Common.{◌≡◌, ℕ, zero, suc, ◌+◌, ◌<◌, ◌≤◌, List, [], ◌∷◌, ◌++◌, length, replicate, Ok, sym, refl, ap, ◌∙◌, append_assoc, add-zero, arith, length-append, le-ltb, ne_eqb}
use Rattle.std.specs.List.{AllByRecursion}
use Rattle.std.proofs.lemmas.List.{take_at, drop_at}
use Rattle.packet.specs.Packets.{Packet, WellFormed, longest_label, packet_symbols, symbols}
use Rattle.packet.specs.Reading.{packet, end, filled, from_data, from_feed, size}
use Rattle.packet.specs.Items.{with_rest, items_from, items, counted, placed}
use Rattle.packet.specs.Laws.{WalksBack}
use Rattle.packet.proofs.Items.{items_more}

-- A packet's data count and data are read as the packet.
from_data_symbols :
    (p f : ℕ) (label body rest : List ℕ) → 0 < length body
    → from_data p f label (length body ∷ body ++ rest) ≡ packet (record { feed = f; label = label; body = body }) p
from_data_symbols p f label body rest some =
    let ne : length body ≡ 0 → ⊥ = λ e. omega arith in
    let fit : length body ≤ length (body ++ rest) = simp length-append (omega arith) in
    rw (ne_eqb (length body) 0 ne, le-ltb (length (body ++ rest)) (length body) fit, take_at body rest (length body) refl)

-- The symbols of a packet are read as that packet, whatever follows them.
pub from_feed_symbols : (p : ℕ) (x : Packet) (rest : List ℕ) → WellFormed x → from_feed p (packet_symbols x ++ rest) ≡ packet x p
from_feed_symbols p x rest w =
    let l = x.label in
    let tail : List ℕ = length x.body ∷ x.body ++ rest in
    let ne : x.feed ≡ 0 → ⊥ = λ e. omega (arith, w.feed.0) in
    let e : (l ++ (length x.body ∷ x.body)) ++ rest ≡ l ++ tail = append_assoc l (length x.body ∷ x.body) rest in
    let fit : length l ≤ length (l ++ tail) = simp length-append (omega arith) in
    rw (ne_eqb x.feed 0 ne, le-ltb longest_label (length l) w.label.0, e, le-ltb (length (l ++ tail)) (length l) fit, take_at l tail (length l) refl, drop_at l tail (length l) refl)
    (from_data_symbols p x.feed l x.body rest w.body.0)

filled_zeros : (p q k : ℕ) → filled p q (replicate k 0) ≡ end p
filled_zeros p q zero = refl
filled_zeros p q (suc k) = filled_zeros p (q + 1) k

items_zeros : (p k : ℕ) → items_from 0 p (replicate k 0) ≡ end p ∷ []
items_zeros p zero = refl
items_zeros p (suc k) = ap (λ s. with_rest s (λ m. items_from m (p + 1) (replicate k 0))) (filled_zeros p (p + 1) k)

pub length_packet_symbols : (x : Packet) (p : ℕ) → length (packet_symbols x) ≡ size (packet x p)
length_packet_symbols x p = simp length-append (omega arith)

-- The items of packets' symbols, from any place on.
pub items_symbols : (p : ℕ) (ps : List Packet) (k : ℕ) → AllByRecursion WellFormed ps → items_from 0 p (symbols ps ++ replicate k 0) ≡ placed p ps
items_symbols p [] k w = items_zeros p k
items_symbols p (x ∷ ps) k w =
    let rest : List ℕ = symbols ps ++ replicate k 0 in
    let long = length_packet_symbols x p in
    ap (items_from 0 p) (append_assoc (packet_symbols x) (symbols ps) (replicate k 0))
    ∙ items_more p (packet_symbols x ++ rest) x p (from_feed_symbols p x rest w.0)
    ∙ ap (λ bs. packet x p ∷ items_from 0 (p + size (packet x p)) bs) (drop_at (packet_symbols x) rest (size (packet x p)) long)
    ∙ ap (λ n. packet x p ∷ items_from 0 (p + n) rest) (sym long) ∙ ap (λ ys. packet x p ∷ ys) (items_symbols (p + length (packet_symbols x)) ps k w.1)

pub counted_placed : (n p : ℕ) (ps : List Packet) → counted n (placed p ps) ≡ Ok (n + length ps)
counted_placed n p [] = ap Ok (sym (add-zero n))
counted_placed n p (x ∷ ps) =
    let e : n + 1 + length ps ≡ n + length (x ∷ ps) = omega arith in
    counted_placed (n + 1) (p + length (packet_symbols x)) ps ∙ ap Ok e

pub walks_back : WalksBack
walks_back message ps c =
    let e : items message ≡ placed 0 ps = ap items c.is ∙ items_symbols 0 ps c.fill c.well_formed in
    let n : 0 + length ps ≡ length ps = omega arith in
    record { packets = e; count = ap (counted 0) e ∙ counted_placed 0 0 ps ∙ ap Ok n }
