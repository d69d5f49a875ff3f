-- The exponent form keeps the laws, by those of the power form.
use Rattle.std.specs.Prelude.{◌≡◌, ℕ, ◌+◌, ◌-◌, ◌%◌, ◌<◌, Bool, true, false, ◌≢◌, ◌⊎◌, Some, Decides, ◌==◌, nat_lt, refl}
use Rattle.std.proofs.Common.{sym, subst, ap, ap₂, ◌∙◌, inl, inr, arith, leb→le, ne_eqb}
use mathlib.Core.HLevel.{is_prop→PathP}
use Rattle.std.proofs.Math.Bridge.{le_prop}
use Rattle.std.proofs.lemmas.Bool.Decides.{eqb_tells, Decides-eqb, Decides-like, same_from_decides}
use Rattle.field.specs.Field.{Laws, mapped}
use Rattle.field.proofs.Carried.{carried_laws}
use Rattle.power_form.specs.Arithmetic.{times_alpha, alpha_byte, product, exponent, inverse}
use Rattle.power_form.specs.Bounds.{exponent_below}
use Rattle.power_form.specs.PowerForm.{element, power_ops, exponent_if}
use Rattle.power_form.specs.declared.element.Power.{Power}
use Rattle.table.proofs.Tests.{below}
use Rattle.power_form.specs.ByteLaws.{exponent_of_power, power_of_exponent, powers_product, power_mod, product_zero}
use Rattle.power_form.specs.PowerLaws.{power_equal, element_of, product_bits, power_bits, power_laws, reciprocal_some}
use Rattle.exponent_form.specs.ExponentForm.{numbered, power_of_logarithm, logarithm_if, logarithm_of_power, logarithm_ops}
use Rattle.exponent_form.specs.declared.element.Exponent.{Exponent}
use Rattle.exponent_form.specs.declared.element.Logarithm.{Logarithm}
use Rattle.exponent_form.specs.declared.element.Logarithm.TheVariants.{Star, Of}

pub exponent_equal : {x y : Exponent} → x.number ≡ y.number → x ≡ y
exponent_equal {x} {y} e = λ i. record { number = e i; below = is_prop→PathP (λ k. e k < 255) (λ k. le_prop) x.below y.below i }

-- No power of α is zero.
pub power_positive : (n : ℕ) → n < 255 → 0 < alpha_byte n
unfolding alpha_byte times_alpha
power_positive n h = leb→le 1 (alpha_byte n) (below 255 (λ n. nat_lt 0 (alpha_byte n)) tt n h)

-- What an exponent that was found says of its byte.
pub exponent_found : (b : Bool) (a n : ℕ) → Some n ≡ exponent_if b a → (b ≡ false) × (n ≡ exponent a)
exponent_found true a n e = absurd (let z : ◌≡◌ {A = ℕ} 0 1 = cc in omega arith)
exponent_found false a n e = (refl, cc)

-- The logarithm of a byte that is not zero.
pub logarithm_some : (a : ℕ) (e : Exponent) → 0 < a → exponent a ≡ e.number → logarithm_if (a == 0) a ≡ Of e
logarithm_some a e positive same =
    let number : exponent a % 255 ≡ e.number = omega (arith, exponent_below a) in
    ap (λ b. logarithm_if b a) (ne_eqb a 0 (λ z. omega arith)) ∙ ap Of (exponent_equal number)

pub of_power : (e : Exponent) → logarithm_of_power (power_of_logarithm (Of e)) ≡ Of e
of_power e =
    ap (λ a. logarithm_if (a == 0) a) (power_bits e.number)
    ∙ logarithm_some (alpha_byte e.number) e (power_positive e.number e.below) (exponent_of_power e.number e.below)

pub forth : (x : Logarithm) → logarithm_of_power (power_of_logarithm x) ≡ x
forth Star = refl
forth (Of e) = of_power e

pub back : (p : Power) → power_of_logarithm (logarithm_of_power p) ≡ p
back p = at (eqb_tells p.bits 0)
  where
    at : (((p.bits == 0) ≡ true) × (p.bits ≡ 0)) ⊎ (((p.bits == 0) ≡ false) × (p.bits ≢ 0)) → power_of_logarithm (logarithm_of_power p) ≡ p
    at (inl z) = ap (λ b. power_of_logarithm (logarithm_if b p.bits)) z.0 ∙ power_equal (sym z.1)
    at (inr z) =
        let ne : p.bits ≢ 0 = z.1 in
        let small : exponent p.bits % 255 ≡ exponent p.bits = omega (arith, exponent_below p.bits) in
        ap (λ b. power_of_logarithm (logarithm_if b p.bits)) z.0 ∙ power_equal (power_bits (exponent p.bits % 255) ∙ ap alpha_byte small ∙ power_of_exponent p.bits (omega arith) p.byte)

pub logarithm_laws : Laws logarithm_ops
logarithm_laws = carried_laws power_ops logarithm_of_power power_of_logarithm back power_laws forth

-- The code's product, reciprocal and test of sameness.
pub logarithm_product : (x y s : Exponent) → s.number ≡ (x.number + y.number) % 255 → Of s ≡ logarithm_ops.product (Of x) (Of y)
logarithm_product x y s e =
    let same : power_of_logarithm (Of s) ≡ power_ops.product (power_of_logarithm (Of x)) (power_of_logarithm (Of y)) =
    power_equal (power_bits s.number ∙ ap alpha_byte e ∙ sym (power_mod (x.number + y.number)) ∙ sym (powers_product x.number y.number)
    ∙ sym (product_bits (power_of_logarithm (Of x)) (power_of_logarithm (Of y)) ∙ ap₂ product (power_bits x.number) (power_bits y.number))) in
    sym (of_power s) ∙ ap logarithm_of_power same

pub product_star_left : (y : Logarithm) → Star ≡ logarithm_ops.product Star y
product_star_left y =
    let same : power_of_logarithm Star ≡ power_ops.product (power_of_logarithm Star) (power_of_logarithm y) =
    sym (ap element (product_zero 0 (power_of_logarithm y).bits (inl refl))) in
    ap logarithm_of_power same

pub product_star_right : (x : Logarithm) → Star ≡ logarithm_ops.product x Star
product_star_right x = product_star_left x ∙ logarithm_laws.product_comm Star x

pub logarithm_reciprocal : (n s : Exponent) → s.number ≡ (255 - n.number) % 255 → Some (Of s) ≡ logarithm_ops.reciprocal (Of n)
unfolding inverse
logarithm_reciprocal n s e =
    let a = (power_of_logarithm (Of n)).bits in
    let positive : 0 < a = subst (λ a. 0 < a) (sym (power_bits n.number)) (power_positive n.number n.below) in
    let same : power_of_logarithm (Of s) ≡ element (inverse a) =
    element_of (power_of_logarithm (Of s)) (inverse a)
    (power_bits s.number ∙ ap alpha_byte (e ∙ ap (λ k. (255 - k) % 255) (sym (exponent_of_power n.number n.below))) ∙ sym (ap inverse (power_bits n.number))) in
    ap Some (sym (of_power s) ∙ ap logarithm_of_power same)
    ∙ ap (mapped logarithm_of_power) (reciprocal_some a positive)

-- The same, of exponents counted in whole turns.
pub numbered_product : (m n : Exponent) → logarithm_ops.product (Of m) (Of n) ≡ Of (numbered (m.number + n.number))
numbered_product m n = sym (logarithm_product m n (numbered (m.number + n.number)) refl)

pub numbered_reciprocal : (n : Exponent) → logarithm_ops.reciprocal (Of n) ≡ Some (Of (numbered (255 - n.number)))
numbered_reciprocal n = sym (logarithm_reciprocal n (numbered (255 - n.number)) refl)

pub ruleset products = (numbered_product, product_star_left, product_star_right)

-- Any right test of sameness is the form's.
pub logarithm_same : (x y : Logarithm) (r : Bool) → Decides r (x ≡ y) → r ≡ logarithm_ops.same x y
logarithm_same x y r d = same_from_decides r (logarithm_ops.same x y) d (logarithm_laws.sameness x y)

pub same_of : (m n : Exponent) → (m.number == n.number) ≡ logarithm_ops.same (Of m) (Of n)
same_of m n =
    logarithm_same (Of m) (Of n) (m.number == n.number)
    (Decides-like (m.number == n.number) (λ e. ap Of (exponent_equal e)) (λ e. ap (λ (k : Exponent). k.number) (of_injective e)) (Decides-eqb m.number n.number))
  where
    of_injective : Of m ≡ Of n → m ≡ n
    of_injective e = cc

pub star_not_of : (n : Exponent) → false ≡ logarithm_ops.same Star (Of n)
star_not_of n =
    logarithm_same Star (Of n) false ((λ e. absurd (apart e)), (λ e. absurd (unlike e)))
  where
    apart : false ≡ true → ⊥
    apart e = let z : ◌≡◌ {A = ℕ} 0 1 = cc in omega arith

    unlike : Star ≡ Of n → ⊥
    unlike e = let z : ◌≡◌ {A = ℕ} 0 1 = cc in omega arith

pub of_not_star : (n : Exponent) → false ≡ logarithm_ops.same (Of n) Star
of_not_star n =
    logarithm_same (Of n) Star false ((λ e. absurd (apart e)), (λ e. absurd (unlike e)))
  where
    apart : false ≡ true → ⊥
    apart e = let z : ◌≡◌ {A = ℕ} 0 1 = cc in omega arith

    unlike : Of n ≡ Star → ⊥
    unlike e = let z : ◌≡◌ {A = ℕ} 0 1 = cc in omega arith
