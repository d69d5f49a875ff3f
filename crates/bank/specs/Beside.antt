-- The lanes of two banks side by side, by the lanes of each.
use Rattle.std.specs.Prelude.{◌≡◌, ℕ, ◌+◌, ◌-◌, ◌<◌, ◌≤◌, min, cond, ◌&&◌, List, [], ◌++◌, length, take, set, Ok, Err, Result, nat_lt, slice_index_or, slice_set}
use Rattle.std.proofs.Math.Path.{refl, ap}
use Rattle.std.proofs.Common.{sym, ◌∙◌, ⊎_elim, arith}
use Rattle.std.proofs.Math.Seq.{take-set-lt}
use Rattle.std.proofs.lemmas.List.{length-take, length-append, map-append, take-map, get_or-take, get_or_append_left, get_or-append_right, set-append_left, set-append_right}
use Rattle.std.proofs.lemmas.Bool.{lt-ltb, cases_lt}
use Rattle.polynomial.specs.Coefficients.{coeff}
use Rattle.dual_form.specs.DualForm.{symbol, dual_ops}
use Rattle.dual_form.specs.declared.element.Dual.{Dual}
use Rattle.bank.specs.declared.pair.Side.{Side}
use Rattle.bank.specs.declared.pair.Side.TheVariants.{Left, Right}
use Rattle.bank.specs.declared.fault.BankFault.{BankFault}
use Rattle.bank.specs.declared.fault.BankFault.TheVariants.{NoSuchRegister}
use Rattle.bank.specs.Lanes.{Lanes, Shaped, all_cleared, stepped, fed, placed, at, told, beside}

module _ (l r : Lanes) where
  pub length_beside : length (beside l r) ≡ min 8 (length l + length r)
  unfolding beside
  length_beside = simp (length-take, length-append)

  pub beside_cleared : beside (all_cleared l) (all_cleared r) ≡ all_cleared (beside l r)
  unfolding beside
  beside_cleared = ap (take 8) (sym (map-append _ l r)) ∙ take-map _ 8 (l ++ r)

  pub beside_left : (k : ℕ) → k < 8 → k < length l → slice_index_or (beside l r) k [] ≡ slice_index_or l k []
  unfolding beside
  beside_left k h i = get_or-take 8 (l ++ r) k [] h ∙ get_or_append_left l r [] k i

  pub beside_right : (k : ℕ) → k < 8 → length l ≤ k → slice_index_or (beside l r) k [] ≡ slice_index_or r (k - length l) []
  unfolding beside
  beside_right k h i = get_or-take 8 (l ++ r) k [] h ∙ get_or-append_right l r (length l) k [] refl i

  pub set_left : (k : ℕ) (v : List Dual) → k < 8 → k < length l → beside (slice_set l k v) r ≡ slice_set (beside l r) k v
  unfolding beside
  set_left k v h i = ap (take 8) (sym (set-append_left l r k v i)) ∙ take-set-lt 8 (l ++ r) k v h

  pub set_right : (k : ℕ) (v : List Dual) → k < 8 → length l ≤ k → beside l (slice_set r (k - length l) v) ≡ slice_set (beside l r) k v
  unfolding beside
  set_right k v h i = ap (take 8) (sym (set-append_right l r (length l) k v refl i)) ∙ take-set-lt 8 (l ++ r) k v h

  pub beside_shaped : Shaped l → Shaped r → Shaped (beside l r)
  beside_shaped p q =
      let e = length_beside in
      let a = p.some in
      record {
        some = omega arith;
        few = omega arith;
        wide = λ k h. ⊎_elim
            (λ i. ap length (beside_left k (omega arith) i) ∙ p.wide k i)
            (λ i. ap length (beside_right k (omega arith) i) ∙ q.wide (k - length l) (omega arith))
            (cases_lt k (length l));
      }

-- Lane k of two banks side by side is lane j of the left one.
pub record OnLeft (l r : Lanes) (k j : ℕ) : Type 0 where
  pub there : k < length (beside l r)
  pub split : k < length l
  pub number : j ≡ k

-- Lane k of two banks side by side is lane j of the right one.
pub record OnRight (l r : Lanes) (k j : ℕ) : Type 0 where
  pub there : k < length (beside l r)
  pub split : length l ≤ k
  pub number : j ≡ k - length l

-- What is told of the side on which lane k of two banks is.
abbrev pub SideTold : Lanes → Lanes → ℕ → Result Side BankFault → Type 0
SideTold l r k (Ok (Left j)) = OnLeft l r k j
SideTold l r k (Ok (Right j)) = OnRight l r k j
SideTold l r k (Err f) = (length (beside l r) ≤ k) × (f ≡ NoSuchRegister)

told_alike : (a b : Lanes) (j k p : ℕ) → nat_lt j (length a) ≡ nat_lt k (length b) → slice_index_or a j [] ≡ slice_index_or b k [] → told a j p ≡ told b k p
told_alike a b j k p there same =
    ap (λ x. cond (nat_lt j (length a) && nat_lt p 32) (Ok (coeff dual_ops x p).byte) (Err NoSuchRegister)) same
    ∙ ap (λ t. cond (t && nat_lt p 32) (Ok (at b k p)) (Err NoSuchRegister)) there

pub among : (l r : Lanes) (k : ℕ) → k < length (beside l r) → k < 8
among l r k there = let e = length_beside l r in omega arith

module _ {l r : Lanes} {k j : ℕ} (on : OnLeft l r k j) where
  pub lane_left : slice_index_or (beside l r) k [] ≡ slice_index_or l j []
  lane_left = rw on.number (beside_left l r k (among l r k on.there) on.split)

  pub there_left : nat_lt k (length (beside l r)) ≡ nat_lt j (length l)
  there_left = rw on.number (lt-ltb k (length (beside l r)) on.there ∙ sym (lt-ltb k (length l) on.split))

  pub set_on_left : (v : List Dual) → beside (slice_set l j v) r ≡ slice_set (beside l r) k v
  set_on_left v = rw on.number (set_left l r k v (among l r k on.there) on.split)

  pub fed_left : (b : ℕ) → beside (fed l j b) r ≡ fed (beside l r) k b
  fed_left b = set_on_left _ ∙ ap (λ x. set (beside l r) k (stepped x b)) (sym lane_left)

  pub placed_left : (p b : ℕ) → beside (placed l j p b) r ≡ placed (beside l r) k p b
  placed_left p b = set_on_left _ ∙ ap (λ x. set (beside l r) k (slice_set x p (symbol b))) (sym lane_left)

  pub told_left : (p : ℕ) → told l j p ≡ told (beside l r) k p
  told_left p = told_alike l (beside l r) j k p (sym there_left) (sym lane_left)

module _ {l r : Lanes} {k j : ℕ} (on : OnRight l r k j) where
  pub lane_right : slice_index_or (beside l r) k [] ≡ slice_index_or r j []
  lane_right = rw on.number (beside_right l r k (among l r k on.there) on.split)

  pub there_right : nat_lt k (length (beside l r)) ≡ nat_lt j (length r)
  there_right =
      let e = length_beside l r in
      rw on.number (lt-ltb k (length (beside l r)) on.there ∙ sym (lt-ltb (k - length l) (length r) (omega arith)))

  pub set_on_right : (v : List Dual) → beside l (slice_set r j v) ≡ slice_set (beside l r) k v
  set_on_right v = rw on.number (set_right l r k v (among l r k on.there) on.split)

  pub fed_right : (b : ℕ) → beside l (fed r j b) ≡ fed (beside l r) k b
  fed_right b = set_on_right _ ∙ ap (λ x. set (beside l r) k (stepped x b)) (sym lane_right)

  pub placed_right : (p b : ℕ) → beside l (placed r j p b) ≡ placed (beside l r) k p b
  placed_right p b = set_on_right _ ∙ ap (λ x. set (beside l r) k (slice_set x p (symbol b))) (sym lane_right)

  pub told_right : (p : ℕ) → told r j p ≡ told (beside l r) k p
  told_right p = told_alike r (beside l r) j k p (sym there_right) (sym lane_right)
