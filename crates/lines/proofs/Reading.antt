-- Parts of a line, and what they come to.
use Rattle.std.proofs.Common.{◌≡◌, ◌≢◌, ℕ, zero, suc, ◌+◌, ◌-◌, ◌<◌, ◌≤◌, Option, None, Some, OnSome, Bool, true, false, cond, eqb, List, [], ◌∷◌, ◌++◌, All, length, take, refl, sym, ap, subst, ◌∙◌, arith, take-take, take_all, get_or, length-take, length-append}
use Rattle.std.proofs.lemmas.List.{take_more}
use Rattle.std.proofs.lemmas.List.Elements.{All-nil, All-more}
use Rattle.std.proofs.lemmas.Bool.Decides.{Decides-eqb}
use Rattle.std.proofs.lemmas.Slice.Eq.{ends_is}
use Rattle.std.proofs.KnownBytes.{Consumes-trans}
use Rattle.std.proofs.Transfers.{StopsAt-append}
use Rattle.std.specs.Io.{StopsAt}
use Rattle.std.specs.Io.KnownBytes.{Consumes, IsAtEnd}
use Rattle.std.specs.List.{ends_with}
use Rattle.lines.specs.Steps.{Moved}
use Rattle.std.specs.Io.BufRead.{take_through}

-- what a read takes stands at the front
pub through_le : (xs : List ℕ) → length (take_through 10 xs) ≤ length xs
through_le [] = omega arith
through_le (x ∷ xs) = at (eqb x 10) (through_le xs)
  where
    at : (b : Bool) → length (take_through 10 xs) ≤ length xs → length (cond b (x ∷ []) (x ∷ take_through 10 xs)) ≤ length (x ∷ xs)
    at true h = omega arith
    at false h = omega arith

pub through_front : (xs : List ℕ) → take (length (take_through 10 xs)) xs ≡ take_through 10 xs
through_front [] = refl
through_front (x ∷ xs) = at (eqb x 10) (through_front xs)
  where
    at : (b : Bool) → take (length (take_through 10 xs)) xs ≡ take_through 10 xs → take (length (cond b (x ∷ []) (x ∷ take_through 10 xs))) (x ∷ xs) ≡ cond b (x ∷ []) (x ∷ take_through 10 xs)
    at true h = refl
    at false h = ap (λ l. x ∷ l) h

-- and a read of at most k bytes
pub part_front : (k : ℕ) (xs : List ℕ) → take (length (take_through 10 (take k xs))) xs ≡ take_through 10 (take k xs)
part_front k xs =
    let short = through_le (take k xs) in
    let within : length (take_through 10 (take k xs)) ≤ k = omega (arith, short, length-take k xs) in
    sym (take-take (length (take_through 10 (take k xs))) k xs within) ∙ through_front (take k xs)

pub part_within : (k : ℕ) (xs : List ℕ) → (length (take_through 10 (take k xs)) ≤ k) × (length (take_through 10 (take k xs)) ≤ length xs)
part_within k xs = let short = through_le (take k xs) in (omega (arith, short, length-take k xs), omega (arith, short, length-take k xs))

pub part_none : (k : ℕ) (xs : List ℕ) → length (take_through 10 (take k xs)) ≡ 0 → 0 < k → length xs ≡ 0
part_none zero xs none some = absurd (omega arith)
part_none (suc k) [] none some = refl
part_none (suc k) (x ∷ xs) none some = absurd (at (eqb x 10) none)
  where
    at : (b : Bool) → length (cond b (x ∷ []) (x ∷ take_through 10 (take k xs))) ≡ 0 → ⊥
    at true h = omega arith
    at false h = omega arith

-- what does not end with a line feed, and has none before its last byte, has none
last_parted : (w : List ℕ) → 0 < length w → w ≡ take (length w - 1) w ++ get_or w (length w - 1) 0 ∷ []
last_parted w some = sym (take_all (length w - 1 + 1) w (omega arith)) ∙ take_more w (length w - 1) 0 (omega arith)

pub no_feed : (w : List ℕ) → StopsAt w 10 → ((front : List ℕ) → w ≢ front ++ 10 ∷ []) → All (λ x. x ≢ 10) w
no_feed [] stops more = All-nil (λ x. x ≢ 10)
no_feed (x ∷ xs) stops more =
    let w = x ∷ xs in
    let some : 0 < length w = omega arith in
    subst (All (λ y. y ≢ 10)) (take_all (length w - 1 + 1) w (omega arith))
    (All-more (λ y. y ≢ 10) w (length w - 1) 0 (omega arith) stops
    (λ e. more (take (length w - 1) w) (last_parted w some ∙ ap (λ y. take (length w - 1) w ++ y ∷ []) e)))

-- what `ends_with` says of a line feed
pub feed_ends : (v w : List ℕ) (r : Bool) → v ≡ w → r ≡ ends_with eqb v (10 ∷ []) → (r ≡ true → w ≡ take (length w - 1) w ++ 10 ∷ []) × ((front : List ℕ) → w ≡ front ++ 10 ∷ [] → r ≡ true)
feed_ends v w r same h = let is = ends_is Decides-eqb w (10 ∷ []) r (h ∙ ap (λ l. ends_with eqb l (10 ∷ [])) same) in (is.0, is.1)

-- a line with no line feed, and a part moved behind it
pub longer_line : (a b c : Option (List ℕ)) (room n : ℕ) (line longer : List ℕ) → All (λ x. x ≢ 10) line → Consumes a b line → Moved b c room n line longer
    → (length longer ≡ length line + n) × StopsAt longer 10 × Consumes a c longer
longer_line a b c room n line longer lacks gone m = (
  omega (arith, ap length m.appended, length-append line m.part, m.count),
  subst (λ l. StopsAt l 10) (sym m.appended) (StopsAt-append line m.part 10 lacks m.stops),
  subst (Consumes a c) (sym m.appended) (Consumes-trans a b c line m.part gone m.gone),
)

-- what is left after more reads is left after all of them
pub nothing_left : (a b c : Option (List ℕ)) (line : List ℕ) → Consumes a b line → OnSome b (IsAtEnd c) → OnSome a (IsAtEnd c)
nothing_left None b c line gone none = tt
nothing_left (Some x) None c line gone none = absurd gone
nothing_left (Some x) (Some y) c line gone none = none
