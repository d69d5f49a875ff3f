-- The generator carried over to another kind of field element.
use Rattle.std.proofs.Common.{◌≡◌, ℕ, zero, suc, ◌+◌, List, [], ◌∷◌, map, sym, refl, ap, ◌∙◌, ap₂}
use Rattle.std.proofs.Math.Path.{fun_ext}
use Rattle.field.specs.Field.{Ops, power, alpha_power, carried}
use Rattle.field.proofs.Carried.{carried_power}
use Rattle.polynomial.specs.Coefficients.{plus, scale, times}
use Rattle.code.specs.Code.{Code, root}
use Rattle.generator.specs.Generator.{product_of, generator, exponents, listed}

module _ {A B : Type 0} (o : Ops A) (to : A → B) (from : B → A) (back : (x : A) → from (to x) ≡ x) where
  abbrev o' : Ops B
  o' = carried o to from

  sum_to : (x y : A) → to (o.sum x y) ≡ o'.sum (to x) (to y)
  sum_to x y = sym (ap to (ap₂ o.sum (back x) (back y)))

  product_to : (x y : A) → to (o.product x y) ≡ o'.product (to x) (to y)
  product_to x y = sym (ap to (ap₂ o.product (back x) (back y)))

  pub map_plus : (p q : List A) → map to (plus o p q) ≡ plus (carried o to from) (map to p) (map to q)
  unfolding plus
  map_plus [] q = refl
  map_plus (a ∷ p) [] = refl
  map_plus (a ∷ p) (b ∷ q) = ap₂ ◌∷◌ (sum_to a b) (map_plus p q)

  pub map_scale : (c : A) (p : List A) → map to (scale o c p) ≡ scale (carried o to from) (to c) (map to p)
  unfolding scale
  map_scale c [] = refl
  map_scale c (a ∷ p) = ap₂ ◌∷◌ (product_to c a) (map_scale c p)

  pub map_times : (p q : List A) → map to (times o p q) ≡ times (carried o to from) (map to p) (map to q)
  unfolding times
  map_times [] q = refl
  map_times (a ∷ p) q = map_plus (scale o a q) (o.nought ∷ times o p q) ∙ ap₂ (λ s t. plus o' s (o'.nought ∷ t)) (map_scale a q) (map_times p q)

  pub map_product : (f : ℕ → A) (n : ℕ) → map to (product_of o f n) ≡ product_of (carried o to from) (λ k. to (f k)) n
  unfolding product_of
  map_product f zero = refl
  map_product f (suc n) = map_times (f n ∷ o.unit ∷ []) (product_of o f n) ∙ ap (times o' (to (f n) ∷ o'.unit ∷ [])) (map_product f n)

  pub root_to : (c : Code) (k : ℕ) → to (root o c k) ≡ root (carried o to from) c k
  root_to c k = sym (ap (λ x. power o' x (c.first + k)) (carried_power o to from back o.alpha c.step) ∙ carried_power o to from back (alpha_power o c.step) (c.first + k))

  -- The generator of any code.
  pub map_generator : (c : Code) → map to (generator o c) ≡ generator (carried o to from) c
  map_generator c = map_product (root o c) c.checks ∙ ap (λ f. product_of o' f c.checks) (fun_ext (root_to c))

  map_powers : (ns : List ℕ) → map to (map (alpha_power o) ns) ≡ map (alpha_power o') ns
  map_powers [] = refl
  map_powers (n ∷ ns) = ap₂ ◌∷◌ (sym (carried_power o to from back o.alpha n)) (map_powers ns)

  -- The coefficients, as they are listed.
  pub map_listed : map to (listed o) ≡ listed (carried o to from)
  unfolding listed
  map_listed = map_powers exponents
