-- What a line that was gathered comes to.
use Rattle.std.proofs.Common.{◌≡◌, ◌≢◌, ℕ, ◌+◌, ◌-◌, ◌<◌, ◌≤◌, ⊎_elim, Option, None, Some, IfSome, Ok, Err, Result, Bool, true, false, ◌&&◌, cond, eqb, leb, List, [], ◌∷◌, ◌++◌, All, length, take, get_or, refl, sym, ap, subst, ◌∙◌, arith, take-take, take_all, take_at, length-take, length-append, append_assoc, append-nil, eq-eqb, ne_eqb, eqb-true, le_refl}
use Rattle.std.proofs.lemmas.Bool.{lt-leb, le-leb}
use Rattle.std.proofs.lemmas.Bool.Decides.{Decides-ltb}
use Rattle.std.proofs.Math.Nat.{sub_self}
use Rattle.std.proofs.lemmas.List.{get_or-append_right}
use Rattle.std.proofs.BufReadLemmas.{take_through-append, drop_through-append}
use Rattle.std.specs.Io.BufRead.{take_through, drop_through, strip_last, ends_with_byte, DropsThrough}
use Rattle.tokens.specs.declared.fault.Fault.{Fault}
use Rattle.tokens.specs.declared.fault.Fault.TheVariants.{Long}
use Rattle.lines.specs.Lines.{longest, line_of, outcome, kept}
use Rattle.lines.specs.Steps.{Gathered}

-- the last byte is taken off where it is a line feed, and else nothing
strip_feed : (w : List ℕ) → 0 < length w → get_or w (length w - 1) 0 ≡ 10 → strip_last 10 w ≡ take (length w - 1) w
strip_feed w some last =
    ap (λ b. cond (b && eqb (get_or w (length w - 1) 0) 10) (take (length w - 1) w) w) ((Decides-ltb 0 (length w)).1 some)
    ∙ ap (λ b. cond b (take (length w - 1) w) w) (eq-eqb _ _ last)

unless_both : (a b : Bool) (x y : List ℕ) → (a ≡ true → b ≡ true → ⊥) → cond (a && b) x y ≡ y
unless_both true true x y h = absurd (h refl refl)
unless_both true false x y h = refl
unless_both false b x y h = refl

strip_other : (w : List ℕ) → (0 < length w → get_or w (length w - 1) 0 ≢ 10) → strip_last 10 w ≡ w
strip_other w other = unless_both _ _ _ _ (λ some last. other ((Decides-ltb 0 (length w)).0 some) (eqb-true _ _ last))

pub feed_stripped : (front : List ℕ) → strip_last 10 (front ++ 10 ∷ []) ≡ front
feed_stripped front =
    let w = front ++ 10 ∷ [] in
    let long : length w ≡ length front + 1 = length-append front (10 ∷ []) in
    let at : length w - 1 ≡ length front = omega (arith, long) in
    strip_feed w (omega (arith, long)) (ap (λ k. get_or w k 0) at ∙ get_or-append_right front (10 ∷ []) (length front) (length front) 0 refl (omega arith) ∙ ap (λ k. get_or (10 ∷ []) k 0) (sub_self (length front)))
    ∙ take_at front (10 ∷ []) (length w - 1) (sym at)

pub none_stripped : (w : List ℕ) → All (λ x. x ≢ 10) w → strip_last 10 w ≡ w
none_stripped w lacks = strip_other w (λ some. lacks (length w - 1) 0 (omega arith))

-- what stands before the last byte stays
front_stripped : (w z : List ℕ) → All (λ x. x ≢ 10) w → (take (length w) (strip_last 10 (w ++ z)) ≡ w) × (length w ≤ length (strip_last 10 (w ++ z)))
front_stripped w [] lacks =
    let same : strip_last 10 (w ++ []) ≡ w = ap (strip_last 10) (append-nil w) ∙ none_stripped w lacks in
    (ap (take (length w)) same ∙ take_all (length w) w (le_refl _), omega (arith, ap length same))
front_stripped w (y ∷ z) lacks = at (ends_with_byte 10 all)
  where
    all : List ℕ
    all = w ++ y ∷ z

    at : (b : Bool) → (take (length w) (cond b (take (length all - 1) all) all) ≡ w) × (length w ≤ length (cond b (take (length all - 1) all) all))
    at true =
        let long = length-append w (y ∷ z) in (
          take-take (length w) (length all - 1) all (omega (arith, long)) ∙ take_at w (y ∷ z) (length w) refl,
          omega (arith, long, length-take (length all - 1) all),
        )
    at false = (take_at w (y ∷ z) (length w) refl, omega (arith, length-append w (y ∷ z)))

-- what is told of a text that has a byte
abbrev outcome_of : ℕ → ℕ → Option (Result (Unit {0}) Fault)
outcome_of n m = cond (eqb n 0) None (Some (cond (leb m 65536) (Ok tt) (Err Long)))

told_kept : (n m : ℕ) → 0 < n → m ≤ 65536 → Some (Ok tt) ≡ outcome_of n m
told_kept n m some fits = sym (ap (λ b. cond b None (Some (cond (leb m 65536) (Ok tt) (Err Long)))) (ne_eqb n 0 (λ e. omega arith)) ∙ ap (λ b. Some (cond b (Ok tt) (Err Long))) (le-leb m 65536 fits))

told_long : (n m : ℕ) → 0 < n → 65536 < m → Some (Err Long) ≡ outcome_of n m
told_long n m some over = sym (ap (λ b. cond b None (Some (cond (leb m 65536) (Ok tt) (Err Long)))) (ne_eqb n 0 (λ e. omega arith)) ∙ ap (λ b. Some (cond b (Ok tt) (Err Long))) (lt-leb m 65536 over))

-- a line that ends with a line feed
pub ended : (a b : Option (List ℕ)) (w front : List ℕ) → Gathered a b (longest + 1) w → w ≡ front ++ 10 ∷ []
    → IfSome a (λ xs. Some (Ok tt) ≡ outcome xs) × IfSome a (λ xs. front ≡ kept xs) × DropsThrough a b 10
ended None b w front h e = (tt, tt, tt)
ended (Some xs) None w front h e = absurd h.gone
ended (Some xs) (Some ys) w front h e =
    let long = ap length e ∙ length-append front (10 ∷ []) in
    let split : xs ≡ front ++ 10 ∷ ys = h.gone ∙ ap (λ l. l ++ ys) e ∙ append_assoc front (10 ∷ []) ys in
    let lacks : All (λ x. x ≢ 10) front = subst (All (λ x. x ≢ 10)) (ap (take (length w - 1)) e ∙ take_at front (10 ∷ []) (length w - 1) (omega (arith, long))) h.stops in
    let line : line_of xs ≡ front = ap line_of split ∙ ap (strip_last 10) (take_through-append 10 front (10 ∷ ys) lacks) ∙ feed_stripped front in (
      told_kept (length xs) (length (line_of xs)) (omega (arith, ap length split, length-append front (10 ∷ ys))) (omega (arith, ap length line, h.fits, long)),
      sym (ap (take 65537) line ∙ take_all 65537 front (omega (arith, h.fits, long))),
      ap Some (sym (ap (drop_through 10) split ∙ drop_through-append 10 front (10 ∷ ys) lacks)),
    )

no_end : (w : List ℕ) → All (λ x. x ≢ 10) w → (front : List ℕ) → w ≡ front ++ 10 ∷ [] → ⊥
no_end w lacks front e =
    let long = ap length e ∙ length-append front (10 ∷ []) in
    lacks (length front) 0 (omega (arith, long)) (ap (λ l. get_or l (length front) 0) e ∙ get_or-append_right front (10 ∷ []) (length front) (length front) 0 refl (omega arith) ∙ ap (λ k. get_or (10 ∷ []) k 0) (sub_self (length front)))

-- the last line, which has no line feed
pub last : (a b : Option (List ℕ)) (w : List ℕ) → Gathered a b (longest + 1) w → All (λ x. x ≢ 10) w → 0 < length w → length w ≤ longest
    → IfSome a (λ xs. Some (Ok tt) ≡ outcome xs) × IfSome a (λ xs. w ≡ kept xs) × DropsThrough a b 10
last None b w h lacks some fits = (tt, tt, tt)
last (Some xs) None w h lacks some fits = absurd h.gone
last (Some xs) (Some ys) w h lacks some fits =
    let nothing : ys ≡ [] = ⊎_elim (λ e. absurd (no_end w lacks e.0 e.1)) (λ more. ⊎_elim (λ full. absurd (omega (arith, full, fits))) (λ end. end) more) h.ends in
    let split : xs ≡ w ++ [] = h.gone ∙ ap (λ l. w ++ l) nothing in
    let line : line_of xs ≡ w = ap line_of split ∙ ap (strip_last 10) (take_through-append 10 w [] lacks ∙ append-nil w) ∙ none_stripped w lacks in (
      told_kept (length xs) (length (line_of xs)) (omega (arith, ap length split, length-append w [])) (omega (arith, ap length line)),
      sym (ap (take 65537) line ∙ take_all 65537 w (omega arith)),
      ap Some (nothing ∙ sym (ap (drop_through 10) split ∙ drop_through-append 10 w [] lacks)),
    )

-- a line that is too long, and its rest
pub long : (a b c : Option (List ℕ)) (w : List ℕ) → Gathered a b (longest + 1) w → All (λ x. x ≢ 10) w → longest < length w → DropsThrough b c 10
    → IfSome a (λ xs. Some (Err Long) ≡ outcome xs) × IfSome a (λ xs. w ≡ kept xs) × DropsThrough a c 10
long None b c w h lacks over rest = (tt, tt, tt)
long (Some xs) None c w h lacks over rest = absurd h.gone
long (Some xs) (Some ys) c w h lacks over rest =
    let whole : length w ≡ 65537 = omega (arith, h.fits) in
    let line : line_of xs ≡ strip_last 10 (w ++ take_through 10 ys) = ap line_of h.gone ∙ ap (strip_last 10) (take_through-append 10 w ys lacks) in
    let front = front_stripped w (take_through 10 ys) lacks in (
      told_long (length xs) (length (line_of xs)) (omega (arith, ap length h.gone, length-append w ys)) (omega (arith, ap length line, front.1)),
      sym (ap (take 65537) line ∙ ap (λ k. take k (strip_last 10 (w ++ take_through 10 ys))) (sym whole) ∙ front.0),
      rest ∙ ap Some (sym (ap (drop_through 10) h.gone ∙ drop_through-append 10 w ys lacks)),
    )
