-- The lanes of what is assembled, and the whole text of a plan.
use Rattle.std.proofs.Common.{◌≡◌, ℕ, zero, suc, ◌+◌, ◌<◌, ◌≤◌, min, true, false, eqb, List, [], ◌++◌, length, get_or, take, replicate, sym, refl, ap, ◌∙◌, ap₂, ⊎_elim, arith}
use lib.ListN.{length-replicate}
use Rattle.std.proofs.lemmas.List.{append-nil, length-append, length-take, take_all, replicate-append-replicate, take-replicate}
use Rattle.std.proofs.lemmas.Bool.{eqb-true, eqb-false, ne_eqb, cases_lt}
use Rattle.bank.specs.Lanes.{zeros, beside}
use Rattle.bank.specs.declared.pair.Pair.{Pair}
use Rattle.rack.specs.declared.kind.Kind.TheVariants.{Table}
use Rattle.rack.specs.Dividers.{Rack}
use Rattle.lineup.specs.Built.{rack_lanes}
use Rattle.lineup.specs.Kinds.{first_eight}
use Rattle.lineup.proofs.Texts.{same_behind, no_bytes}
use Rattle.lineup.specs.Plans.{Plan, table, serial, tables, pair, holder, plan_text, Within, dividers_of, lanes_of, is_holder, Begins, BeginsNone}

beside_zeros : (a b : ℕ) → beside (replicate a zeros) (replicate b zeros) ≡ take 8 (replicate (a + b) zeros)
unfolding beside
beside_zeros a b = ap (take 8) (replicate-append-replicate a b zeros)

short : (n : ℕ) → n ≤ 8 → take 8 (replicate n zeros) ≡ replicate n zeros
short n h = take_all 8 (replicate n zeros) (omega (arith, length-replicate n zeros))

-- A rack of all but the last beside one of the last.
pub lanes_beside : (n count : ℕ) (left right : Rack) (both : Pair Rack Rack) → n + 1 ≡ count → count ≤ 8 → rack_lanes left ≡ replicate n zeros
    → rack_lanes right ≡ replicate 1 zeros → both.left ≡ left → both.right ≡ right
    → beside (rack_lanes both.left) (rack_lanes both.right) ≡ replicate count zeros
lanes_beside n count left right both all few l r bl br =
    ap₂ beside (ap rack_lanes bl ∙ l) (ap rack_lanes br ∙ r) ∙ beside_zeros n 1 ∙ short (n + 1) (omega arith) ∙ ap (λ m. replicate m zeros) all

cut : (m : ℕ) → take 8 (replicate m zeros) ≡ replicate (min 8 m) zeros
cut m =
    ⊎_elim (λ h. short m (omega arith) ∙ ap (λ n. replicate n zeros) (whole h)) (λ h. take-replicate 8 m zeros h ∙ ap (λ n. replicate n zeros) (least h)) (cases_lt m 8)
  where
    whole : m < 8 → m ≡ min 8 m
    whole h = omega arith

    least : 8 ≤ m → 8 ≡ min 8 m
    least h = omega arith

take_both : {A : Type 0} (n : ℕ) (a b : List A) → length (take n (a ++ b)) ≡ min n (length a + length b)
take_both n a b = length-take n (a ++ b) ∙ ap (min n) (length-append a b)

-- The lanes of a plan are as many zero lanes as dividers that count.
pub lanes_planned : (n : ℕ) (p : Plan) → Within n p → lanes_of p ≡ replicate (length (first_eight (dividers_of p))) zeros
unfolding lanes_of dividers_of first_eight
lanes_planned n table h = refl
lanes_planned n serial h = refl
lanes_planned n (tables k) h =
    let few = h.1 in
    ap (λ m. replicate m zeros) (sym (length-take 8 (replicate k Table) ∙ omega (arith, length-replicate k Table)))
lanes_planned zero (pair x y) h = absurd h
lanes_planned (suc n) (pair x y) h =
    ap₂ beside (lanes_planned n x h.0) (lanes_planned n y h.1)
    ∙ beside_zeros (length (take 8 (dividers_of x))) (length (take 8 (dividers_of y)))
    ∙ cut (length (take 8 (dividers_of x)) + length (take 8 (dividers_of y)))
    ∙ ap (λ m. replicate m zeros) (omega (arith, length-take 8 (dividers_of x), length-take 8 (dividers_of y), take_both 8 (dividers_of x) (dividers_of y)))
lanes_planned zero (holder x) h = absurd h
lanes_planned (suc n) (holder x) h = lanes_planned n x h

-- A plan has a divider.
some_divider : (n : ℕ) (p : Plan) → Within n p → 0 < length (dividers_of p)
unfolding dividers_of
some_divider n table h = omega arith
some_divider n serial h = omega arith
some_divider n (tables k) h = let low = h.0 in omega (arith, length-replicate k Table)
some_divider zero (pair x y) h = absurd h
some_divider (suc n) (pair x y) h = omega (arith, length-append (dividers_of x) (dividers_of y), some_divider n x h.0)
some_divider zero (holder x) h = absurd h
some_divider (suc n) (holder x) h = some_divider n x h

pub counted_divider : (n : ℕ) (p : Plan) → Within n p → first_eight (dividers_of p) ≡ [] → ⊥
unfolding first_eight
counted_divider n p h e = omega (arith, ap length e, length-take 8 (dividers_of p), some_divider n p h)

-- Only a holder's text begins with h.
pub holder_told : (n : ℕ) (p : Plan) → Within n p → eqb (get_or (plan_text p) 0 0) 104 ≡ is_holder p
unfolding plan_text
holder_told n table h = refl
holder_told n serial h = refl
holder_told n (tables k) h = let high = h.1 in ne_eqb (48 + k) 104 (λ e. omega arith)
holder_told n (pair x y) h = refl
holder_told n (holder x) h = refl

-- A text that begins with no plan's is no plan's.
pub whole_none : (n : ℕ) (text : List ℕ) → BeginsNone n text → (p : Plan) → Within n p → text ≡ plan_text p → ⊥
whole_none n text none p h e = none p [] (record { within = h; text_is = e ∙ sym (append-nil (plan_text p)) })

-- A text that begins with a plan's and goes on is no plan's.
pub longer_none : (n : ℕ) (text rest : List ℕ) (q : Plan) → Begins n text rest q → eqb (length rest) 0 ≡ false → (p : Plan) → Within n p → text ≡ plan_text p → ⊥
longer_none n text rest q b more p h e =
    let same : rest ≡ [] = same_behind n n q p rest [] b.within h (sym b.text_is ∙ e ∙ sym (append-nil (plan_text p))) in
    eqb-false (length rest) 0 more (ap length same)

-- A text that is used up is the plan's.
pub whole_text : (n : ℕ) (text rest : List ℕ) (q : Plan) → Begins n text rest q → eqb (length rest) 0 ≡ true → text ≡ plan_text q
whole_text n text rest q b used =
    b.text_is ∙ ap (λ r. plan_text q ++ r) (no_bytes rest (let z = eqb-true (length rest) 0 used in omega arith)) ∙ append-nil (plan_text q)
