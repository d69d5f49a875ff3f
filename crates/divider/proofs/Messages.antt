-- A message followed by its checks, and what holds of the registers of every code.
use Rattle.std.proofs.Common.{◌≡◌, suc, ◌+◌, ◌-◌, List, [], ◌++◌, reverse, length, sym, refl, ap, ◌∙◌, subst, arith}
use Rattle.std.proofs.lemmas.List.{length-append, length-reverse, reverse-append, reverse-reverse}
use Rattle.field.proofs.Ring.{Lawful}
use Rattle.polynomial.specs.Coefficients.{shift, Monic}
use Rattle.polynomial.proofs.Algebra.{append_shift}
use Rattle.polynomial.proofs.Entries.{coeff_past}
use Rattle.polynomial.proofs.Remainders.{one_remainder, one_list, remainder_same}
use Rattle.code.specs.Code.{Code, telemetry, root, of_symbols, Codeword}
use Rattle.generator.specs.Claims.{Fits, Leaves}
use Rattle.generator.specs.Generator.{generator}
use Rattle.generator.proofs.Computed.{generators}
use Rattle.generator.proofs.Divisors.{coded, other_side}
use Rattle.generator.proofs.Gammas.{generates}
use Rattle.generator.proofs.Products.{monic_product, length_product}
use Rattle.divider.specs.Claims.{Steps, Divides, Completes, Divider}
use Rattle.divider.specs.Registers.{registers, checks, cleared}
use Rattle.divider.proofs.Registers.{all_taken_none, all_taken_more, taken_first, taken_next, length_taken, registers_long, registers_remainder}

-- What is sent, as a polynomial: the registers below the message.
pub sent_polynomial : {K : Type 0} (ms rs : List K) → reverse (ms ++ reverse rs) ≡ rs ++ reverse ms
sent_polynomial ms rs = reverse-append ms (reverse rs) ∙ ap (λ t. t ++ reverse ms) (reverse-reverse rs)

module _ {K : Type 0} (F : Lawful K) (c : Code) where
  pub monic_generator : Monic F.ops (generator F.ops c) c.checks
  monic_generator = monic_product F (root F.ops c) c.checks

  generator_long : length (generator F.ops c) ≡ suc c.checks
  generator_long = length_product F (root F.ops c) c.checks

  pub steps : Steps F.ops c
  steps = record {
    first = λ rs m last l n. taken_first F (generator F.ops c) rs m last (l ∙ sym n) (omega (arith, generator_long));
    next = λ rs m last i l n h. taken_next F (generator F.ops c) rs m last i (l ∙ sym n) (omega (arith, generator_long)) h;
    long = length_taken F (generator F.ops c) c.checks monic_generator;
  }

  pub long : (ms : List K) → length (registers F.ops c ms) ≡ c.checks
  long ms = registers_long F (generator F.ops c) c.checks monic_generator ms

  pub remainder : (ms : List K) → Leaves F.ops c (shift F.ops c.checks (of_symbols ms)) (registers F.ops c ms)
  remainder ms = registers_remainder F (generator F.ops c) c.checks monic_generator ms

  pub divides : Divides F.ops c
  divides = record {
    none = all_taken_none F.ops (generator F.ops c) (cleared F.ops c);
    more = all_taken_more F.ops (generator F.ops c) (cleared F.ops c);
    long = long;
    remainder = remainder;
    coefficients = λ ms r R. one_remainder F (generator F.ops c) c.checks _ _ r (remainder ms) R;
  }

  -- A code whose numbers fit.
  module _ (fits : Fits F.ops c) where
    length_sent : (ms : List K) → length ms ≡ c.symbols - c.checks → length (of_symbols (ms ++ checks F.ops c ms)) ≡ c.symbols
    length_sent ms l =
        length-reverse (ms ++ checks F.ops c ms) ∙ length-append ms (checks F.ops c ms)
        ∙ ap (λ n. length ms + n) (length-reverse (registers F.ops c ms) ∙ long ms)
        ∙ omega (arith, l, fits.few)

    pub codeword : (ms : List K) → length ms ≡ c.symbols - c.checks → Codeword F.ops c (of_symbols (ms ++ checks F.ops c ms))
    codeword ms l =
        (generates F c fits).divided _ (length_sent ms l)
        (subst (λ w. Leaves F.ops c w []) (sym (sent_polynomial ms (registers F.ops c ms)))
        (coded F (generator F.ops c) c.checks (of_symbols ms) (registers F.ops c ms) (long ms) (remainder ms)))

    pub length_rest : (ms cs : List K) → length ms ≡ c.symbols - c.checks → Codeword F.ops c (of_symbols (ms ++ cs)) → length (reverse cs) ≡ c.checks
    length_rest ms cs l w =
        length-reverse cs
        ∙ omega (arith, l, fits.few, sym (length-append ms cs) ∙ sym (length-reverse (ms ++ cs)) ∙ w.long)

    pub only : (ms cs : List K) → length ms ≡ c.symbols - c.checks → Codeword F.ops c (of_symbols (ms ++ cs)) → cs ≡ checks F.ops c ms
    only ms cs l w =
        let g = generator F.ops c in
        let n : length (reverse cs) ≡ c.checks = length_rest ms cs l w in
        let whole : Leaves F.ops c (reverse cs ++ reverse ms) [] = subst (λ p. Leaves F.ops c p []) (reverse-append ms cs) ((generates F c fits).divides _ w) in
        let apart = other_side F g c.checks (shift F.ops (length (reverse cs)) (reverse ms)) (reverse cs) (λ i h. coeff_past F.ops _ i (omega arith))
        (remainder_same F g c.checks _ _ [] [] (append_shift F (reverse cs) (reverse ms)) (λ i. refl) whole) in
        let R : Leaves F.ops c (shift F.ops c.checks (reverse ms)) (reverse cs) = subst (λ k. Leaves F.ops c (shift F.ops k (reverse ms)) (reverse cs)) n apart in
        sym (reverse-reverse cs) ∙ ap reverse (one_list F g c.checks _ (reverse cs) (registers F.ops c ms) R (remainder ms) (n ∙ sym (long ms)))

    pub completes : Completes F.ops c
    completes = record { codeword = codeword; only = only }

pub divider : {K : Type 0} (F : Lawful K) → Divider F.ops
divider F = record {
  steps = steps F;
  divides = divides F;
  completes = completes F;
  telemetry_completes = λ full. completes F telemetry ((generators F).telemetry_fits full);
}
