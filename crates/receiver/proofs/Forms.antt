-- Correction in one kind of field element and in another that its operations are carried over to.
use Rattle.std.proofs.Common.{◌≡◌, ℕ, zero, suc, cond, List, [], ◌∷◌, map, get_or, Ok, Err, Result, sym, refl, ap, ◌∙◌, ap₂, arith}
use Rattle.std.proofs.lemmas.List.{length-map}
use Rattle.field.specs.Field.{Ops, carried}
use Rattle.field.specs.Polynomial.{terms, value}
use Rattle.polynomial.specs.Coefficients.{coeff, plus, times}
use Rattle.polynomial.specs.Words.{distance}
use Rattle.code.specs.Code.{Code, root, Codeword}
use Rattle.generator.specs.Generator.{generator}
use Rattle.generator.specs.Claims.{Leaves}
use Rattle.generator.proofs.Carrying.{map_plus, map_times, map_generator, root_to}
use Rattle.locator.specs.Correction.{Near}
use Rattle.correction.specs.Correcting.{Corrected}

pub map_undone : {A B : Type 0} (f : A → B) (g : B → A) → ((x : A) → g (f x) ≡ x) → (xs : List A) → map g (map f xs) ≡ xs
map_undone f g h [] = refl
map_undone f g h (x ∷ xs) = ap₂ ◌∷◌ (h x) (map_undone f g h xs)

module _ {A B : Type 0} (o : Ops A) (to : A → B) (from : B → A) (back : (x : A) → from (to x) ≡ x) (forth : (y : B) → to (from y) ≡ y) where
  abbrev o' : Ops B
  o' = carried o to from

  product_to : (x y : A) → to (o.product x y) ≡ o'.product (to x) (to y)
  product_to x y = sym (ap to (ap₂ o.product (back x) (back y)))

  terms_to : (cs : List A) (x p : A) → to (terms o cs x p) ≡ terms o' (map to cs) (to x) (to p)
  unfolding terms
  terms_to [] x p = refl
  terms_to (c ∷ cs) x p =
      sym (ap to (ap₂ o.sum (back (o.product c p)) (back (terms o cs x (o.product p x)))))
      ∙ ap₂ o'.sum (product_to c p) (terms_to cs x (o.product p x) ∙ ap (terms o' (map to cs) (to x)) (product_to p x))

  value_to : (cs : List A) (x : A) → to (value o cs x) ≡ value o' (map to cs) (to x)
  unfolding value
  value_to cs x = terms_to cs x o.unit

  -- Words differ in the same places.
  distance_from : (v w : List B) → distance o (map from v) (map from w) ≡ distance o' v w
  unfolding distance
  distance_from [] w = refl
  distance_from (a ∷ v) [] = refl
  distance_from (a ∷ v) (b ∷ w) = ap (λ n. cond (o.same (from a) (from b)) n (suc n)) (distance_from v w)

  pub coeff_from : (p : List B) (i : ℕ) → coeff o (map from p) i ≡ from (coeff o' p i)
  unfolding coeff
  coeff_from p i = go p i
    where
      go : (p : List B) (i : ℕ) → get_or (map from p) i o.nought ≡ from (get_or p i (to o.nought))
      go [] i = sym (back o.nought)
      go (x ∷ p) zero = refl
      go (x ∷ p) (suc i) = go p i

  module _ (c : Code) where
    codeword_to : (w : List A) → Codeword o c w → Codeword o' c (map to w)
    codeword_to w h = record {
      long = length-map w to ∙ h.long;
      zero_at_roots = λ k in_checks.
          ap (value o' (map to w)) (sym (root_to o to from back c k)) ∙ sym (value_to w (root o c k)) ∙ ap to (h.zero_at_roots k in_checks);
    }

    codeword_from : (v : List B) → Codeword o' c v → Codeword o c (map from v)
    codeword_from v h = record {
      long = length-map v from ∙ h.long;
      zero_at_roots = λ k in_checks.
          sym (back (value o (map from v) (root o c k)))
          ∙ ap from (value_to (map from v) (root o c k)
          ∙ ap₂ (value o') (map_undone from to forth v) (root_to o to from back c k)
          ∙ h.zero_at_roots k in_checks)
          ∙ back o.nought;
    }

    near_to : (v : List B) (w : List A) → Near o c (map from v) w → Near o' c v (map to w)
    near_to v w h =
        let same : distance o' v (map to w) ≡ distance o (map from v) w =
        sym (distance_from v (map to w)) ∙ ap (distance o (map from v)) (map_undone to from back w) in
        record { long = sym (length-map v from) ∙ h.long; codeword = codeword_to w h.codeword; close = omega (arith, h.close, same) }

    near_from : (v w : List B) → Near o' c v w → Near o c (map from v) (map from w)
    near_from v w h = record { long = length-map v from ∙ h.long; codeword = codeword_from w h.codeword; close = omega (arith, h.close, distance_from v w) }

    -- What is corrected in one kind is corrected in the other.
    pub corrected_to : {E : Type 0} (v : List B) (w : List A) (r : Result ℕ E) → Corrected o c (map from v) w r → Corrected o' c v (map to w) r
    corrected_to v w (Ok n) h = record {
      near = near_to v w h.near;
      count = h.count ∙ sym (sym (distance_from v (map to w)) ∙ ap (distance o (map from v)) (map_undone to from back w));
    }
    corrected_to v w (Err e) h = (ap (map to) h.0 ∙ map_undone from to forth v, λ u near. h.1 (map from u) (near_from v u near))

    pub leaves_from : (p r : List B) → Leaves o' c p r → Leaves o c (map from p) (map from r)
    leaves_from p r h =
        let g = generator o c in
        let g' = generator o' c in
        let quotient = map from h.quotient in
        let whole = plus o (times o quotient g) (map from r) in
        let whole_to : map to whole ≡ plus o' (times o' h.quotient g') r =
        map_plus o to from back (times o quotient g) (map from r)
        ∙ ap₂ (plus o') (map_times o to from back quotient g ∙ ap₂ (times o') (map_undone from to forth h.quotient) (map_generator o to from back c)) (map_undone from to forth r) in
        let generator_at : (i : ℕ) → coeff o g i ≡ from (coeff o' g' i) =
        λ i. ap (λ q. coeff o q i) (sym (map_undone to from back g) ∙ ap (map from) (map_generator o to from back c)) ∙ coeff_from g' i in
        record {
          degree = record {
            top = λ e. h.degree.top (sym (forth (coeff o' g' c.checks)) ∙ ap to (sym (generator_at c.checks) ∙ e));
            above = λ i above. generator_at i ∙ ap from (h.degree.above i above) ∙ back o.nought;
          };
          quotient = quotient;
          sum = λ i.
              coeff_from p i ∙ ap from (h.sum i ∙ ap (λ q. coeff o' q i) (sym whole_to)) ∙ sym (coeff_from (map to whole) i)
              ∙ ap (λ q. coeff o q i) (map_undone to from back whole);
          low = λ i high. coeff_from r i ∙ ap from (h.low i high) ∙ back o.nought;
        }
