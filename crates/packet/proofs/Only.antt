-- A walk that ends without a fault is one over well-formed packets.
use Rattle.std.proofs.Common.{◌≡◌, ℕ, zero, suc, ◌+◌, ◌<◌, ◌≤◌, eqb, ltb, List, [], ◌∷◌, ◌++◌, length, take, drop, replicate, Ok, sym, refl, ap, ◌∙◌, subst, append_assoc, arith, ltb-false, eqb-true}
use borrow.Author.Tests.{eqb-false}
use Rattle.std.proofs.ByRecursion.{All-take, All-drop}
use Rattle.std.proofs.lemmas.List.{length-take, length-drop, take-append-drop, drop_at}
use Rattle.std.proofs.lemmas.Bool.{cond_both}
use Rattle.packet.specs.Packets.{Packet, Bytes, WellFormed, longest_label, packet_symbols, symbols}
use Rattle.packet.specs.Reading.{Step, packet, end, fault, filled, from_data, from_label, from_feed, size}
use Rattle.packet.specs.Items.{items_from, counted}
use Rattle.packet.specs.Laws.{Consists, OnlyPackets}
use Rattle.packet.proofs.Items.{items_more, items_done}
use Rattle.packet.proofs.Steps.{from_feed_inside}
use Rattle.packet.proofs.Back.{length_packet_symbols}

-- What a step says of the bytes that it is read from: a packet is well-formed and its symbols stand at their front, and at the end they are all 00.
abbrev pub Says : List ℕ → Step → Type 0
Says bs (packet x p) = WellFormed x × (bs ≡ packet_symbols x ++ drop (size (packet x p)) bs)
Says bs (end p) = bs ≡ replicate (length bs) 0
Says bs (fault f) = Unit {0}

-- What the bytes behind the feed byte 00 say of the whole.
filled_says : (p q : ℕ) (bs whole : List ℕ) → (bs ≡ replicate (length bs) 0 → whole ≡ replicate (length whole) 0) → Says whole (filled p q bs)
filled_says p q [] whole then = then refl
filled_says p q (b ∷ bs) whole then =
    cond_both (eqb b 0) (filled p (q + 1) bs) _ (Says whole) (λ t. filled_says p (q + 1) bs whole (λ e. then (λ i. eqb-true b 0 t i ∷ e i))) (λ _. tt)

-- Bytes with a front of length n, cut behind it.
front_cut : (whole front back : List ℕ) (n : ℕ) → length front ≡ n → whole ≡ front ++ back → whole ≡ front ++ drop n whole
front_cut whole front back n long e = e ∙ ap (λ bs. front ++ bs) (sym (ap (drop n) e ∙ drop_at front back n long))

-- From the data count on, and from the label count on, in front of which the other bytes of the whole stand.
from_data_says :
    (p f : ℕ) (label bs whole : List ℕ) → (0 < f) × (f < 256) → (length label ≤ longest_label) × Bytes label → Bytes bs → whole ≡ f ∷ length label ∷ label ++ bs
    → Says whole (from_data p f label bs)
from_data_says p f label [] whole feed short w e = tt
from_data_says p f label (n ∷ bs) whole feed short w e =
    let x : Packet = record { feed = f; label = label; body = take n bs } in
    cond_both (eqb n 0) _ _ (Says whole) (λ _. tt)
    (λ some. cond_both (ltb (length bs) n) _ (packet x p) (Says whole) (λ _. tt)
    (λ t.
    let fits : n ≤ length bs = ltb-false (length bs) n t in
    let long : length (take n bs) ≡ n = omega (arith, length-take n bs) in
    let some' : n ≡ 0 → ⊥ = eqb-false n 0 some in
    let parts : label ++ (n ∷ bs) ≡ (label ++ (length (take n bs) ∷ take n bs)) ++ drop n bs =
    (λ i. label ++ (sym long i ∷ sym (take-append-drop n bs) i)) ∙ sym (append_assoc label (length (take n bs) ∷ take n bs) (drop n bs)) in
    let well : WellFormed x = record { feed = feed; label = short; body = (omega (arith, long, some'), omega (arith, long, w.0), All-take (λ b. b < 256) n bs w.1) } in
    (well, front_cut whole (packet_symbols x) (drop n bs) _ (length_packet_symbols x p) (e ∙ ap (λ ys. f ∷ length label ∷ ys) parts))))

from_label_says : (p f : ℕ) (bs whole : List ℕ) → (0 < f) × (f < 256) → Bytes bs → whole ≡ f ∷ bs → Says whole (from_label p f bs)
from_label_says p f [] whole feed w e = tt
from_label_says p f (n ∷ bs) whole feed w e =
    cond_both (ltb longest_label n) _ _ (Says whole) (λ _. tt)
    (λ few. cond_both (ltb (length bs) n) _ _ (Says whole) (λ _. tt)
    (λ t.
    let fits : n ≤ length bs = ltb-false (length bs) n t in
    let long : length (take n bs) ≡ n = omega (arith, length-take n bs) in
    let short : length (take n bs) ≤ longest_label = omega (arith, ltb-false longest_label n few) in
    from_data_says p f (take n bs) (drop n bs) whole feed (short, All-take (λ b. b < 256) n bs w.1) (All-drop (λ b. b < 256) n bs w.1)
    (e ∙ (λ i. f ∷ sym long i ∷ sym (take-append-drop n bs) i))))

-- What is read is what the bytes are.
pub from_feed_says : (p : ℕ) (bs : List ℕ) → Bytes bs → Says bs (from_feed p bs)
from_feed_says p [] w = refl
from_feed_says p (f ∷ bs) w =
    cond_both (eqb f 0) (filled p (p + 1) bs) (from_label p f bs) (Says (f ∷ bs)) (λ t. filled_says p (p + 1) bs (f ∷ bs) (λ e i. eqb-true f 0 t i ∷ e i))
    (λ t. let ne : f ≡ 0 → ⊥ = eqb-false f 0 t in from_label_says p f bs (f ∷ bs) (omega (arith, ne), w.0) w.1 refl)

-- Bytes that are walked to the end, with n packets counted before and m after it.
abbrev Walked : (n m : ℕ) → List ℕ → Type 0
Walked n m bs = (ps : List Packet) × Consists bs ps × (n + length ps ≡ m)

-- A packet in front of bytes that are walked to the end.
walked_packet : (n m : ℕ) (bs rest : List ℕ) (x : Packet) → WellFormed x → bs ≡ packet_symbols x ++ rest → Walked (n + 1) m rest → Walked n m bs
walked_packet n m bs rest x well e (ps, c, count) =
    let whole : bs ≡ symbols (x ∷ ps) ++ replicate c.fill 0 =
    e ∙ ap (λ ys. packet_symbols x ++ ys) c.is ∙ sym (append_assoc (packet_symbols x) (symbols ps) (replicate c.fill 0)) in
    (x ∷ ps, record { well_formed = (well, c.well_formed); fill = c.fill; is = whole }, omega (arith, count))

-- By what stands at the front; what is behind a packet is shorter.
walked_from :
    (n m p : ℕ) (bs : List ℕ) (s : Step) → Bytes bs → from_feed p bs ≡ s → counted n (items_from 0 p bs) ≡ Ok m
    → ((q : ℕ) (rest : List ℕ) → length rest < length bs → Bytes rest → counted (n + 1) (items_from 0 q rest) ≡ Ok m → Walked (n + 1) m rest)
    → Walked n m bs
walked_from n m p bs (packet x q) w is e more =
    let k = size (packet x q) in
    let says : Says bs (packet x q) = subst (Says bs) is (from_feed_says p bs w) in
    let behind : counted (n + 1) (items_from 0 (p + k) (drop k bs)) ≡ Ok m = sym (ap (counted n) (items_more p bs x q is)) ∙ e in
    let long : size (from_feed p bs) ≡ k = ap size is in
    let shorter : length (drop k bs) < length bs = omega (arith, long, from_feed_inside p bs, length-drop k bs) in
    walked_packet n m bs (drop k bs) x says.0 says.1 (more (p + k) (drop k bs) shorter (All-drop (λ b. b < 256) k bs w) behind)
walked_from n m p bs (end q) w is e more =
    let zeros : Says bs (end q) = subst (Says bs) is (from_feed_says p bs w) in
    let done = ap (counted n) (items_done p bs (end q) is refl) in
    let same : n ≡ m = cc in
    ([], record { well_formed = tt; fill = length bs; is = zeros }, omega (arith, same))
walked_from n m p bs (fault f) w is e more = let done = ap (counted n) (items_done p bs (fault f) is refl) in cc

walked : (b n m p : ℕ) (bs : List ℕ) → length bs < b → Bytes bs → counted n (items_from 0 p bs) ≡ Ok m → Walked n m bs
walked zero n m p bs h w e = absurd (omega arith)
walked (suc b) n m p bs h w e = walked_from n m p bs (from_feed p bs) w refl e (λ q rest shorter. walked b (n + 1) m q rest (omega arith))

pub only_packets : OnlyPackets
only_packets message n w e =
    let found = walked (length message + 1) 0 n 0 message (omega arith) w e in
    (found.0, found.1, omega (arith, found.2))
