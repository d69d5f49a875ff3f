-- Equal symbols, and sums of codewords, in a code of any size.
use Rattle.std.proofs.Common.{◌≡◌, ℕ, ◌+◌, ◌*◌, ◌%◌, ◌<◌, List, replicate, sym, subst, ap, ap₂, ◌∙◌, arith}
use Rattle.std.proofs.lemmas.List.{length-replicate}
use Rattle.field.specs.Field.{power}
use Rattle.polynomial.specs.Coefficients.{plus}
use Rattle.polynomial.proofs.Clauses.{length_plus}
use Rattle.polynomial.proofs.Algebra.{value_plus}
use Rattle.polynomial.proofs.Geometric.{equal_vanish}
use Rattle.polynomial.proofs.Powers.{power_product, alpha_turns, alpha_power_turn}
use Rattle.field.proofs.Ring.{Lawful}
use Rattle.code.specs.Code.{Code, telemetry, gamma_power, root, Codeword}
use Rattle.code.specs.Claims.{Codewords}

module _ {K : Type 0} (F : Lawful K) (c : Code) where
  -- Each power of γ, taken as often as α has powers, is one.
  pub gamma_turn : (j : ℕ) → power F.ops (gamma_power F.ops c j) F.ops.order ≡ F.ops.unit
  gamma_turn j = ap (λ x. power F.ops x F.ops.order) (power_product F F.ops.alpha c.step j) ∙ alpha_power_turn F (c.step * j)

  gamma_one : (j : ℕ) → 0 < F.ops.order → gamma_power F.ops c j ≡ F.ops.unit → (c.step * j) % F.ops.order ≡ 0
  gamma_one j positive e = alpha_turns F (c.step * j) positive (sym (power_product F F.ops.alpha c.step j) ∙ e)

  -- Where no root is one, equal symbols are a codeword.
  pub equal_symbols : F.ops.order ≡ c.symbols → 0 < c.symbols → ((k : ℕ) → k < c.checks → (c.step * (c.first + k)) % c.symbols ≡ 0 → ⊥) → (a : K) → Codeword F.ops c (replicate c.symbols a)
  equal_symbols same positive no_one a =
      let some : 0 < F.ops.order = omega arith in
      record {
        long = length-replicate c.symbols a;
        zero_at_roots = λ k h.
            equal_vanish F c.symbols a (root F.ops c k)
            (subst (λ n. power F.ops (root F.ops c k) n ≡ F.ops.unit) same (gamma_turn (c.first + k)))
            (λ e. no_one k h (subst (λ n. (c.step * (c.first + k)) % n ≡ 0) same (gamma_one (c.first + k) some e)));
      }

  pub codeword_sum : (v w : List K) → Codeword F.ops c v → Codeword F.ops c w → Codeword F.ops c (plus F.ops v w)
  codeword_sum v w cv cw = record {
    long = let e = length_plus F.ops v w in omega (arith, cv.long, cw.long);
    zero_at_roots = λ k h.
        value_plus F v w (root F.ops c k)
        ∙ ap₂ F.ops.sum (cv.zero_at_roots k h) (cw.zero_at_roots k h)
        ∙ F.laws.sum_self F.ops.nought;
  }

-- No root of the (255,223) code is one.
no_root_one : (k : ℕ) → k < 32 → (11 * (112 + k)) % 255 ≡ 0 → ⊥
no_root_one k h e = omega arith

pub codewords : {K : Type 0} (F : Lawful K) → Codewords F.ops
codewords F = record {
  equal_symbols = λ same. equal_symbols F telemetry same (omega arith) no_root_one;
  sums = codeword_sum F telemetry;
}
