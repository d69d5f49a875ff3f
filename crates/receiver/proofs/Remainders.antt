-- The remainder of a word: the registers that took its message symbols, and its check symbols added.
use Rattle.std.proofs.Common.{◌≡◌, ℕ, ◌+◌, ◌-◌, ◌<◌, List, [], ◌++◌, map, reverse, length, get_or, take, drop, Ok, Result, sym, refl, ap, ◌∙◌, subst, ap₂, ⊎_elim, arith}
use Rattle.std.proofs.lemmas.List.{length-reverse, length-map, length-drop, reverse-append, map-append, take-append-drop, get_or-map, get_or-drop, get_or-reverse}
use Rattle.std.proofs.lemmas.List.FromFn.{get_or-map-range_with_len, length-map-range_with_len}
use Rattle.std.proofs.lemmas.Bool.{cases_lt}
use Rattle.std.specs.List.{range_with_len}
use Rattle.field.specs.Field.{Ops}
use Rattle.field.proofs.Ring.{Lawful}
use Rattle.polynomial.specs.Coefficients.{coeff, plus, times, shift, Same, Nought}
use Rattle.polynomial.proofs.Algebra.{append_shift}
use Rattle.polynomial.proofs.Clauses.{coeff_plus}
use Rattle.polynomial.proofs.Entries.{coeff_past}
use Rattle.polynomial.proofs.Remainders.{monic_degree, remainder_same, remainder_plus}
use Rattle.code.specs.Code.{Code, telemetry, of_symbols}
use Rattle.generator.specs.Generator.{generator}
use Rattle.generator.specs.Claims.{Leaves}
use Rattle.generator.proofs.Computed.{generators}
use Rattle.divider.specs.Registers.{registers}
use Rattle.divider.proofs.Messages.{remainder, monic_generator}
use Rattle.power_form.specs.PowerForm.{element, power_ops}
use Rattle.power_form.specs.declared.element.Power.{Power}
use Rattle.power_form.specs.PowerLaws.{power_laws}
use Rattle.dual_form.specs.DualForm.{symbol, dual_of_power, power_of_dual, dual_ops}
use Rattle.dual_form.specs.declared.element.Dual.{Dual}
use Rattle.dual_form.specs.DualLaws.{back, forth}
use Rattle.locator.proofs.Refusals.{distance_self, near_itself}
use Rattle.correction.specs.Correcting.{Corrected, CorrectedIn}
use Rattle.reception.proofs.One.{dual_field}
use Rattle.receiver.specs.Words.{word_of, power_word_of}
use Rattle.receiver.proofs.Forms.{map_undone, coeff_from, corrected_to, leaves_from}
use Rattle.receiver.proofs.Words.{length_word_of}

-- The power form with its laws.
abbrev pub power_field : Lawful Power
power_field = record { ops = power_ops; laws = power_laws }

module _ {K : Type 0} (F : Lawful K) (c : Code) where
  -- A polynomial with no power from that of the generator on is its own remainder.
  low_remainder : (r : List K) → length r ≡ c.checks → Leaves F.ops c r r
  unfolding plus times
  low_remainder r long = record {
    degree = monic_degree F (generator F.ops c) c.checks (monic_generator F c);
    quotient = [];
    sum = λ i. refl;
    low = λ i h. coeff_past F.ops r i (omega arith);
  }

  -- Message symbols followed by check symbols.
  remainder_sum : (ms cs : List K) → length cs ≡ c.checks → Leaves F.ops c (of_symbols (ms ++ cs)) (plus F.ops (registers F.ops c ms) (reverse cs))
  remainder_sum ms cs long =
      let g = generator F.ops c in
      let size : length (reverse cs) ≡ c.checks = length-reverse cs ∙ long in
      let parts : Leaves F.ops c (plus F.ops (shift F.ops c.checks (reverse ms)) (reverse cs)) (plus F.ops (registers F.ops c ms) (reverse cs)) =
      remainder_plus F g c.checks _ _ _ _ (remainder F c ms) (low_remainder (reverse cs) size) in
      let same : Same F.ops (reverse cs ++ reverse ms) (plus F.ops (shift F.ops c.checks (reverse ms)) (reverse cs)) =
      subst (λ n. Same F.ops (reverse cs ++ reverse ms) (plus F.ops (shift F.ops n (reverse ms)) (reverse cs))) size (append_shift F (reverse cs) (reverse ms)) in
      subst (λ p. Leaves F.ops c p (plus F.ops (registers F.ops c ms) (reverse cs))) (sym (reverse-append ms cs))
      (remainder_same F g c.checks _ (reverse cs ++ reverse ms) _ _ (λ i. sym (same i)) (λ i. refl) parts)

coefficient : {K : Type 0} (o : Ops K) (p : List K) (i : ℕ) → get_or p i o.nought ≡ coeff o p i
unfolding coeff
coefficient o p i = refl

module _ (bytes held : List ℕ) (long : length bytes ≡ 255) (size : length held ≡ 32)
    (took : map symbol held ≡ registers dual_ops telemetry (map symbol (take 223 bytes))) where
  abbrev ms : List Dual
  ms = map symbol (take 223 bytes)

  abbrev cs : List Dual
  cs = map symbol (drop 223 bytes)

  length_cs : length cs ≡ 32
  length_cs = length-map (drop 223 bytes) symbol ∙ length-drop 223 bytes ∙ omega arith

  whole : ms ++ cs ≡ map symbol bytes
  whole = sym (map-append symbol (take 223 bytes) (drop 223 bytes)) ∙ ap (map symbol) (take-append-drop 223 bytes)

  in_dual : Leaves dual_ops telemetry (word_of bytes) (plus dual_ops (registers dual_ops telemetry ms) (reverse cs))
  unfolding word_of
  in_dual =
      subst (λ v. Leaves dual_ops telemetry (of_symbols v) (plus dual_ops (registers dual_ops telemetry ms) (reverse cs))) whole (remainder_sum dual_field telemetry ms cs length_cs)

  in_power : Leaves power_ops telemetry (power_word_of bytes) (map power_of_dual (plus dual_ops (registers dual_ops telemetry ms) (reverse cs)))
  unfolding power_word_of
  in_power = leaves_from power_ops dual_of_power power_of_dual back forth telemetry (word_of bytes) (plus dual_ops (registers dual_ops telemetry ms) (reverse cs)) in_dual

  check_at : (i : ℕ) → i < 32 → coeff dual_ops (reverse cs) i ≡ symbol (get_or bytes (254 - i) 0)
  unfolding coeff
  check_at i h =
      let at : length cs - 1 - i ≡ 31 - i = omega (arith, length_cs) in
      let place : 223 + (31 - i) ≡ 254 - i = omega arith in
      get_or-reverse cs i dual_ops.nought (omega (arith, length_cs))
      ∙ ap (λ k. get_or cs k dual_ops.nought) at
      ∙ get_or-map symbol (drop 223 bytes) (31 - i) 0 dual_ops.nought (omega (arith, length-drop 223 bytes))
      ∙ ap symbol (get_or-drop 223 bytes (31 - i) 0 ∙ ap (λ k. get_or bytes k 0) place)

  register_at : (i : ℕ) → i < 32 → coeff dual_ops (registers dual_ops telemetry ms) i ≡ symbol (get_or held i 0)
  unfolding coeff
  register_at i h = ap (λ rs. get_or rs i dual_ops.nought) (sym took) ∙ get_or-map symbol held i 0 dual_ops.nought (omega arith)

  -- Each register and check symbol added, in power form.
  abbrev pub sums : ℕ → Power
  sums i = power_of_dual (dual_ops.sum (symbol (get_or held i 0)) (symbol (get_or bytes (254 - i) 0)))

  pub remainder_found : (r : List Power) → r ≡ map sums (range_with_len 0 32) → Leaves power_ops telemetry (power_word_of bytes) r
  remainder_found r is = remainder_same power_field (generator power_ops telemetry) 32 (power_word_of bytes) (power_word_of bytes) _ r (λ i. refl) same in_power
    where
      low : (i : ℕ) → i < 32 → coeff power_ops (map power_of_dual (plus dual_ops (registers dual_ops telemetry ms) (reverse cs))) i ≡ coeff power_ops r i
      low i h =
          coeff_from power_ops dual_of_power power_of_dual back forth (plus dual_ops (registers dual_ops telemetry ms) (reverse cs)) i
          ∙ ap power_of_dual (coeff_plus dual_field (registers dual_ops telemetry ms) (reverse cs) i ∙ ap₂ dual_ops.sum (register_at i h) (check_at i h))
          ∙ sym (get_or-map-range_with_len sums 0 32 i i (element 0) h (omega arith))
          ∙ ap (λ l. get_or l i (element 0)) (sym is)
          ∙ coefficient power_ops r i

      count : length r ≡ 32
      count = ap length is ∙ length-map-range_with_len sums 0 32

      same : (i : ℕ) → coeff power_ops (map power_of_dual (plus dual_ops (registers dual_ops telemetry ms) (reverse cs))) i ≡ coeff power_ops r i
      same i = ⊎_elim (low i) (λ h. in_power.low i h ∙ sym (coeff_past power_ops r i (omega (arith, count)))) (cases_lt i 32)

-- A word that leaves zero is a codeword, and corrected as it is.
pub clean_word : (bytes : List ℕ) (r : List Power) → length bytes ≡ 255 → Leaves power_ops telemetry (power_word_of bytes) r → Nought power_ops r
    → CorrectedIn dual_ops telemetry (word_of bytes) (word_of bytes) 0
unfolding power_word_of coeff
clean_word bytes r long leaves none =
    let w : List Power = map power_of_dual (word_of bytes) in
    let size : length w ≡ 255 = length-map (word_of bytes) power_of_dual ∙ length_word_of bytes ∙ long in
    let left : Leaves power_ops telemetry w [] = remainder_same power_field (generator power_ops telemetry) 32 w w r [] (λ i. refl) (λ i. none i) leaves in
    let sound = ((generators power_field).telemetry_generates refl).divided w size left in
    let near = near_itself power_field telemetry w size sound.zero_at_roots in
    subst (λ v. CorrectedIn dual_ops telemetry (word_of bytes) v 0) (map_undone power_of_dual dual_of_power forth (word_of bytes))
    (corrected_to power_ops dual_of_power power_of_dual back forth telemetry {E = Unit {0}} (word_of bytes) w (Ok 0) (record { near = near; count = sym (distance_self power_field w) }))

-- What correction makes of a word in power form, in dual form.
pub corrected_word : {E : Type 0} (bytes : List ℕ) (word after r : List Power) (a : Result ℕ E) → word ≡ power_word_of bytes
    → Leaves power_ops telemetry (power_word_of bytes) r → (Leaves power_ops telemetry word r → Corrected power_ops telemetry word after a)
    → Corrected dual_ops telemetry (word_of bytes) (map dual_of_power after) a
unfolding power_word_of
corrected_word bytes word after r a is leaves corrected =
    corrected_to power_ops dual_of_power power_of_dual back forth telemetry (word_of bytes) after a
    (subst (λ v. Corrected power_ops telemetry v after a) is (corrected (subst (λ v. Leaves power_ops telemetry v r) (sym is) leaves)))
