-- Functions on bytes that keep sums (xor): each is known from its values at the eight bits.
use Rattle.std.specs.Prelude.{◌≡◌, ℕ, zero, suc, ◌*◌, ◌/◌, ◌%◌, ◌^◌, ◌<◌, bit_xor}
use Rattle.std.proofs.Common.{sym, ap, ap₂, subst, ◌∙◌, zero-mul, one-mul, arith}
use Rattle.std.specs.Int.Bits.{xor_self, xor_shifted}
use Rattle.std.proofs.lemmas.Nat.{shr_split, shr_below, mod_below, pow_pos}

abbrev pub Additive : (ℕ → ℕ) → Type 0
Additive f = (a b : ℕ) → f (bit_xor a b) ≡ bit_xor (f a) (f b)

pub at_zero : (f : ℕ → ℕ) → Additive f → f 0 ≡ 0
at_zero f keeps = keeps 0 0 ∙ xor_self (f 0)

pub extend : (f g : ℕ → ℕ) → Additive f → Additive g → (k : ℕ) → ((i : ℕ) → i < k → f (2 ^ i) ≡ g (2 ^ i)) → (n : ℕ) → n < 2 ^ k → f n ≡ g n
extend f g f_keeps g_keeps zero basis n below =
    let none : n ≡ 0 = omega arith in
    ap f none ∙ at_zero f f_keeps ∙ sym (ap g none ∙ at_zero g g_keeps)
extend f g f_keeps g_keeps (suc k) basis n below =
    ap f split ∙ f_keeps (n / 2 ^ k * 2 ^ k) (n % 2 ^ k)
    ∙ ap₂ bit_xor (top (n / 2 ^ k) (shr_below n 1 k (subst (λ m. n < 2 ^ m) (omega arith) below)))
    (extend f g f_keeps g_keeps k (λ i h. basis i (omega arith)) (n % 2 ^ k) low)
    ∙ sym (ap g split ∙ g_keeps (n / 2 ^ k * 2 ^ k) (n % 2 ^ k))
  where
    low : n % 2 ^ k < 2 ^ k
    low = mod_below n (2 ^ k) (pow_pos k)

    split : n ≡ bit_xor (n / 2 ^ k * 2 ^ k) (n % 2 ^ k)
    split = sym (xor_shifted (n / 2 ^ k) k (n % 2 ^ k) low ∙ shr_split n k)

    top : (q : ℕ) → q < 2 → f (q * 2 ^ k) ≡ g (q * 2 ^ k)
    top zero h = ap f (zero-mul (2 ^ k)) ∙ at_zero f f_keeps ∙ sym (ap g (zero-mul (2 ^ k)) ∙ at_zero g g_keeps)
    top (suc zero) h = ap f (one-mul (2 ^ k)) ∙ basis k (omega arith) ∙ sym (ap g (one-mul (2 ^ k)))
    top (suc (suc q)) h = absurd (let z : suc (suc q) < 2 = h in omega arith)
