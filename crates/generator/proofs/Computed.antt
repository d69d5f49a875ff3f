-- The coefficients of the (255,223) code's generator: computed in power form, and carried over to the other forms.
use Rattle.std.proofs.Common.{◌≡◌, ℕ, suc, List, [], ◌∷◌, map, reverse, length, sym, refl, ap, ◌∙◌, ap₂, arith}
use Rattle.field.specs.Field.{Ops, power, alpha_power, carried}
use Rattle.field.proofs.Carried.{carried_power}
use Rattle.field.proofs.Ring.{Lawful}
use Rattle.polynomial.specs.Coefficients.{plus, scale, times}
use Rattle.polynomial.proofs.Powers.{alpha_mod}
use Rattle.power_form.specs.Arithmetic.{times_alpha, scaled, product}
use Rattle.power_form.specs.PowerForm.{power_ops}
use Rattle.power_form.specs.declared.element.Power.{Power}
use Rattle.power_form.specs.PowerLaws.{power_equal, power_laws}
use Rattle.dual_form.specs.DualForm.{dual_of_power, power_of_dual, dual_ops}
use Rattle.dual_form.specs.DualLaws.{dual_laws}
use Rattle.dual_form.specs.DualLaws.{back as dual_back}
use Rattle.exponent_form.specs.ExponentForm.{numbered, power_of_logarithm, logarithm_of_power, logarithm_ops}
use Rattle.exponent_form.specs.ExponentLaws.{logarithm_laws, of_power}
use Rattle.exponent_form.specs.ExponentLaws.{back as logarithm_back}
use Rattle.code.specs.Code.{telemetry, root}
use Rattle.generator.specs.Generator.{product_of, generator, exponents, listed}
use Rattle.generator.specs.Claims.{Fits, Generators}
use Rattle.generator.specs.Forms.{logarithm, Lists, ListedForms}
use Rattle.generator.proofs.Products.{monic_product}
use Rattle.generator.proofs.Gammas.{generates, spreads}
use Rattle.generator.proofs.Carrying.{map_generator, map_listed}

-- The bytes of elements in power form, by which they are compared.
bytes : List Power → List ℕ
bytes [] = []
bytes (x ∷ xs) = x.bits ∷ bytes xs

bytes_equal : (xs ys : List Power) → bytes xs ≡ bytes ys → xs ≡ ys
unfolding bytes
bytes_equal [] [] e = refl
bytes_equal [] (y ∷ ys) e = absurd (let l : 0 ≡ suc (length (bytes ys)) = ap length e in omega arith)
bytes_equal (x ∷ xs) [] e = absurd (let l : suc (length (bytes xs)) ≡ 0 = ap length e in omega arith)
bytes_equal (x ∷ xs) (y ∷ ys) e = ap₂ ◌∷◌ (power_equal (ap first e)) (bytes_equal xs ys (ap others e))
  where
    first : List ℕ → ℕ
    first [] = 0
    first (n ∷ ns) = n

    others : List ℕ → List ℕ
    others [] = []
    others (n ∷ ns) = ns

-- The product of the 32 factors, multiplied out.
computed : bytes (generator power_ops telemetry) ≡ bytes (listed power_ops)
unfolding bytes power times_alpha scaled product plus scale times product_of listed
computed = refl

power_coefficients : generator power_ops telemetry ≡ listed power_ops
power_coefficients = bytes_equal _ _ computed

-- The coefficients in any form that the power form is carried over to.
carried_coefficients : {B : Type 0} (to : Power → B) (from : B → Power) → ((x : Power) → from (to x) ≡ x)
    → generator (carried power_ops to from) telemetry ≡ listed (carried power_ops to from)
carried_coefficients to from back = sym (map_generator power_ops to from back telemetry) ∙ ap (map to) power_coefficients ∙ map_listed power_ops to from back

listed_palindrome : {K : Type 0} (o : Ops K) → reverse (listed o) ≡ listed o
unfolding listed
listed_palindrome o = refl

lists : {K : Type 0} (F : Lawful K) → generator F.ops telemetry ≡ listed F.ops → Lists F.ops
lists F known = record {
  coefficients = known;
  palindrome = ap reverse known ∙ listed_palindrome F.ops ∙ sym known;
  monic = monic_product F (root F.ops telemetry) 32;
}

-- A power of α in exponent form.
alpha_logarithm : (n : ℕ) → alpha_power logarithm_ops n ≡ logarithm n
alpha_logarithm n =
    carried_power power_ops logarithm_of_power power_of_logarithm logarithm_back power_ops.alpha n
    ∙ ap logarithm_of_power (alpha_mod (record { ops = power_ops; laws = power_laws }) n (omega arith))
    ∙ of_power (numbered n)

listed_logarithms : (ns : List ℕ) → map (alpha_power logarithm_ops) ns ≡ map logarithm ns
listed_logarithms [] = refl
listed_logarithms (n ∷ ns) = ap₂ ◌∷◌ (alpha_logarithm n) (listed_logarithms ns)

logarithm_coefficients : generator logarithm_ops telemetry ≡ listed logarithm_ops
logarithm_coefficients = carried_coefficients logarithm_of_power power_of_logarithm logarithm_back

pub exponent_coefficients : generator logarithm_ops telemetry ≡ map logarithm exponents
unfolding listed
exponent_coefficients = logarithm_coefficients ∙ listed_logarithms exponents

pub listed_forms : ListedForms
listed_forms = record {
  in_power_form = lists (record { ops = power_ops; laws = power_laws }) power_coefficients;
  in_dual_form = lists (record { ops = dual_ops; laws = dual_laws }) (carried_coefficients dual_of_power power_of_dual dual_back);
  in_exponent_form = lists (record { ops = logarithm_ops; laws = logarithm_laws }) logarithm_coefficients;
  as_exponents = exponent_coefficients;
}

-- 11 times 116 is one more than a multiple of 255.
telemetry_fits : {K : Type 0} (o : Ops K) → o.order ≡ telemetry.symbols → Fits o telemetry
telemetry_fits o full = record { full = full; inverse = 116; inverts = refl; some = omega arith; few = omega arith }

pub generators : {K : Type 0} (F : Lawful K) → Generators F.ops
generators F = record {
  generates = generates F;
  spreads = spreads F;
  telemetry_fits = telemetry_fits F.ops;
  telemetry_generates = λ full. generates F telemetry (telemetry_fits F.ops full);
  telemetry_spreads = λ full. spreads F telemetry (telemetry_fits F.ops full);
}
