-- The laws of the field, on bytes. Those of the product are tests at the eight bits, computed once, and carried to all bytes
-- by additivity; those of exponents are one test each over the 255 powers.
use Rattle.std.specs.Prelude.{◌≡◌, ℕ, zero, suc, ◌+◌, ◌*◌, ◌/◌, ◌%◌, ◌^◌, ◌<◌, Bool, T, ◌⊎◌, ◌≢◌, nat_eq, refl}
use Rattle.std.proofs.Common.{sym, ap, ap₂, ◌∙◌, inl, inr, zero-mul, zero-add, suc-add, arith, lit<}
use Rattle.std.proofs.lemmas.Nat.{div-add-mod'}
use Rattle.power_form.specs.Arithmetic.{times_alpha, alpha_byte, scaled, product, exponent_from, exponent, inverse}
use Rattle.power_form.specs.Bounds.{power_below}
use Rattle.table.specs.Computed.{all_below}
use Rattle.table.proofs.Tests.{below, agree}
use Rattle.power_form.specs.Linear.{Additive, at_zero, extend}
use Rattle.power_form.specs.Products.{left_keeps, right_keeps, alpha_keeps}

-- ---- the product

after_keeps : (f g : ℕ → ℕ) → Additive f → Additive g → Additive (λ a. f (g a))
after_keeps f g f_keeps g_keeps a b = ap f (g_keeps a b) ∙ f_keeps (g a) (g b)

comm_test : Bool
comm_test = all_below 8 (λ i. all_below 8 (λ j. nat_eq (product (2 ^ i) (2 ^ j)) (product (2 ^ j) (2 ^ i))))

comm_passes : T comm_test
unfolding comm_test product scaled times_alpha
comm_passes = tt

comm_at_bits : (i : ℕ) → i < 8 → (j : ℕ) → j < 8 → product (2 ^ i) (2 ^ j) ≡ product (2 ^ j) (2 ^ i)
unfolding comm_test
comm_at_bits i hi =
    agree 8 (λ j. product (2 ^ i) (2 ^ j)) (λ j. product (2 ^ j) (2 ^ i))
    (below 8 (λ i. all_below 8 (λ j. nat_eq (product (2 ^ i) (2 ^ j)) (product (2 ^ j) (2 ^ i)))) comm_passes i hi)

pub product_comm : (a b : ℕ) → a < 256 → b < 256 → product a b ≡ product b a
product_comm a b ha hb =
    extend (λ a. product a b) (product b) (left_keeps b) (right_keeps b) 8
    (λ i hi. extend (product (2 ^ i)) (λ b. product b (2 ^ i)) (right_keeps (2 ^ i)) (left_keeps (2 ^ i)) 8
    (λ j hj. comm_at_bits i hi j hj) b hb) a ha

assoc_test : Bool
assoc_test = all_below 8 (λ i. all_below 8 (λ j. all_below 8 (λ k. nat_eq (product (product (2 ^ i) (2 ^ j)) (2 ^ k)) (product (2 ^ i) (product (2 ^ j) (2 ^ k))))))

assoc_passes : T assoc_test
unfolding assoc_test product scaled times_alpha
assoc_passes = tt

assoc_at_bits : (i : ℕ) → i < 8 → (j : ℕ) → j < 8 → (k : ℕ) → k < 8 → product (product (2 ^ i) (2 ^ j)) (2 ^ k) ≡ product (2 ^ i) (product (2 ^ j) (2 ^ k))
unfolding assoc_test
assoc_at_bits i hi j hj =
    agree 8 (λ k. product (product (2 ^ i) (2 ^ j)) (2 ^ k)) (λ k. product (2 ^ i) (product (2 ^ j) (2 ^ k)))
    (below 8 (λ j. all_below 8 (λ k. nat_eq (product (product (2 ^ i) (2 ^ j)) (2 ^ k)) (product (2 ^ i) (product (2 ^ j) (2 ^ k)))))
    (below 8 (λ i. all_below 8 (λ j. all_below 8 (λ k. nat_eq (product (product (2 ^ i) (2 ^ j)) (2 ^ k)) (product (2 ^ i) (product (2 ^ j) (2 ^ k)))))) assoc_passes i hi)
    j hj)

pub product_assoc : (a b c : ℕ) → a < 256 → b < 256 → c < 256 → product (product a b) c ≡ product a (product b c)
product_assoc a b c ha hb hc =
    extend (λ a. product (product a b) c) (λ a. product a (product b c))
    (after_keeps (λ x. product x c) (λ a. product a b) (left_keeps c) (left_keeps b)) (left_keeps (product b c)) 8
    (λ i hi. extend (λ b. product (product (2 ^ i) b) c) (λ b. product (2 ^ i) (product b c))
    (after_keeps (λ x. product x c) (product (2 ^ i)) (left_keeps c) (right_keeps (2 ^ i)))
    (after_keeps (product (2 ^ i)) (λ b. product b c) (right_keeps (2 ^ i)) (left_keeps c)) 8
    (λ j hj. extend (product (product (2 ^ i) (2 ^ j))) (λ c. product (2 ^ i) (product (2 ^ j) c))
    (right_keeps (product (2 ^ i) (2 ^ j)))
    (after_keeps (product (2 ^ i)) (product (2 ^ j)) (right_keeps (2 ^ i)) (right_keeps (2 ^ j))) 8
    (λ k hk. assoc_at_bits i hi j hj k hk) c hc) b hb) a ha

same_keeps : Additive (λ a. a)
same_keeps a b = refl

pub product_unit : (a : ℕ) → a < 256 → product 1 a ≡ a
unfolding product scaled times_alpha
product_unit = extend (product 1) (λ a. a) (right_keeps 1) same_keeps 8 (agree 8 (λ i. product 1 (2 ^ i)) (λ i. 2 ^ i) tt)

pub product_alpha : (a : ℕ) → a < 256 → product 2 a ≡ times_alpha a
unfolding product scaled times_alpha
product_alpha = extend (product 2) times_alpha (right_keeps 2) alpha_keeps 8 (agree 8 (λ i. product 2 (2 ^ i)) (λ i. times_alpha (2 ^ i)) tt)

-- ---- exponents

pub period : alpha_byte 255 ≡ 1
unfolding alpha_byte times_alpha
period = refl

pub power_of_exponent : (a : ℕ) → 0 < a → a < 256 → alpha_byte (exponent a) ≡ a
unfolding alpha_byte times_alpha exponent exponent_from
power_of_exponent zero positive h = absurd (let z : zero < zero = positive in omega arith)
power_of_exponent (suc a) positive h = agree 255 (λ a. alpha_byte (exponent (suc a))) suc tt a (omega arith)

pub exponent_of_power : (n : ℕ) → n < 255 → exponent (alpha_byte n) ≡ n
unfolding alpha_byte times_alpha exponent exponent_from
exponent_of_power = agree 255 (λ n. exponent (alpha_byte n)) (λ n. n) tt

pub product_inverse : (a : ℕ) → 0 < a → a < 256 → product a (inverse a) ≡ 1
unfolding product scaled alpha_byte times_alpha exponent exponent_from inverse
product_inverse zero positive h = absurd (let z : zero < zero = positive in omega arith)
product_inverse (suc a) positive h = agree 255 (λ a. product (suc a) (inverse (suc a))) (λ a. 1) tt a (omega arith)

pub powers_product : (i j : ℕ) → product (alpha_byte i) (alpha_byte j) ≡ alpha_byte (i + j)
unfolding alpha_byte
powers_product zero j = product_unit (alpha_byte j) (power_below j) ∙ ap alpha_byte (sym (zero-add j))
powers_product (suc i) j =
    ap (λ a. product a (alpha_byte j)) (sym (product_alpha (alpha_byte i) (power_below i)))
    ∙ product_assoc 2 (alpha_byte i) (alpha_byte j) (lit< tt) (power_below i) (power_below j)
    ∙ ap (product 2) (powers_product i j)
    ∙ product_alpha (alpha_byte (i + j)) (power_below (i + j))
    ∙ ap alpha_byte (sym (suc-add i j))

-- 255 more, or any number of times 255 more, is the same power.
power_more : (q r : ℕ) → alpha_byte (q * 255 + r) ≡ alpha_byte r
power_more zero r = ap alpha_byte (ap (λ n. n + r) (zero-mul 255) ∙ zero-add r)
power_more (suc q) r =
    ap alpha_byte (omega arith)
    ∙ sym (powers_product 255 (q * 255 + r))
    ∙ ap (λ a. product a (alpha_byte (q * 255 + r))) period
    ∙ product_unit (alpha_byte (q * 255 + r)) (power_below (q * 255 + r))
    ∙ power_more q r

pub power_mod : (n : ℕ) → alpha_byte n ≡ alpha_byte (n % 255)
power_mod n = ap alpha_byte (sym (div-add-mod' n 255)) ∙ power_more (n / 255) (n % 255)

-- The product by exponents.
pub product_exponents : (a b : ℕ) → 0 < a → a < 256 → 0 < b → b < 256 → product a b ≡ alpha_byte ((exponent a + exponent b) % 255)
product_exponents a b pa ha pb hb =
    sym (ap₂ product (power_of_exponent a pa ha) (power_of_exponent b pb hb))
    ∙ powers_product (exponent a) (exponent b)
    ∙ power_mod (exponent a + exponent b)

-- The product with zero.
pub product_zero : (a b : ℕ) → (a ≡ 0) ⊎ ((a ≢ 0) × (b ≡ 0)) → product a b ≡ 0
product_zero a b (inl e) = ap (λ n. product n b) e ∙ at_zero (λ n. product n b) (left_keeps b)
product_zero a b (inr p) = ap (product a) p.1 ∙ at_zero (product a) (right_keeps a)
