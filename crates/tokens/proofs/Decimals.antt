-- Decimal text and its number, and texts that are no number.
use Rattle.std.proofs.Common.{◌≡◌, ℕ, ◌^◌, ◌<◌, ◌≤◌, Bool, true, false, cond, None, Some, MatchOption, List, length, get_or, Ok, Err, decimal, Result, nat_le, sym, refl, ap, ◌∙◌, subst, ⊎_elim, arith}
use Rattle.std.specs.Result.{result_ok}
use Rattle.std.proofs.lemmas.Bool.Decides.{nat_tests}
use Rattle.std.proofs.lemmas.Map.Entries.{option_filter}
use Rattle.std.specs.Str.Parse.{digits_value, ParsesUnsigned}
use Rattle.std.specs.Int.{IsInRange}
use Rattle.std.proofs.lemmas.Str.Parse.{IsNumeralModel, numerals_by_value, tells_by_index, parse_digits}
use Rattle.std.proofs.lemmas.Result.{OkIff-at_ok}
use Rattle.std.proofs.lemmas.Fmt.{decimal-digits_value, decimal_nonempty, digits_decimal, parse-decimal, first_decimal, decimal_digit}
use Rattle.tokens.specs.declared.fault.Fault.{Fault}
use Rattle.tokens.specs.declared.fault.Fault.TheVariants.{Memory, Shape, Key, Digit, Half, Number, Long, Text}
use Rattle.std.specs.Str.Iter.{LacksByte}
use Rattle.tokens.specs.Numbers.{AllDigits, NoNumber, BadNumber}
use Rattle.tokens.specs.Words.{Plain}
use Rattle.std.proofs.str.Laws.{order}

-- a text of digits has a value
own : IsNumeralModel AllDigits (digits_value 10)
own = numerals_by_value _ tells_by_index

-- what a parse says of the text
module _ {E : Type 0} (t : List ℕ) (r : Result ℕ E) (h : ParsesUnsigned 64 10 t r) where
  pub read : (n : ℕ) → AllDigits t → (get_or t 0 0 ≡ 48 → length t ≤ 1) → r ≡ Ok n → t ≡ decimal n
  read n all lead e =
      let p = OkIff-at_ok r _ _ n (parse_digits own 64 t r h all) e in
      sym (ap decimal p.1 ∙ decimal-digits_value own t all p.0.0 (λ z. let a = lead z in omega (arith, p.0.0)) p.0.1)

  pub unread : (d : E) → r ≡ Err d → (n : ℕ) → n < 2 ^ 64 → t ≡ decimal n → ⊥
  unread d bad n small e =
      let good = parse-decimal 64 n t r small small e h in
      let z : ◌≡◌ {A = ℕ} 0 1 = cc in
      omega arith

  pub over : (m most : ℕ) → r ≡ Ok m → most < m → (n : ℕ) → n ≤ most → n < 2 ^ 64 → t ≡ decimal n → ⊥
  over m most got large n below small e =
      let good = parse-decimal 64 n t r small small e h in
      let same : m ≡ n = cc in
      omega arith

  kept : (most m : ℕ) (b : Bool) → nat_le m most ≡ b → AllDigits t → (get_or t 0 0 ≡ 48 → length t ≤ 1) → r ≡ Ok m → MatchOption (cond b (Some m) None) (NoNumber most t) (λ n. (n ≤ most) × (t ≡ decimal n))
  kept most m true below all lead got = (grind (arith, nat_tests), read m all lead got)
  kept most m false above all lead got = λ n le small e. over m most got (grind (arith, nat_tests)) n le small e

-- what is kept of it, up to `most`
pub up_to : {E : Type 0} (t : List ℕ) (r : Result ℕ E) (most : ℕ) → ParsesUnsigned 64 10 t r → AllDigits t → (get_or t 0 0 ≡ 48 → length t ≤ 1) → MatchOption (option_filter (λ n. nat_le n most) (result_ok r)) (NoNumber most t) (λ n. (n ≤ most) × (t ≡ decimal n))
up_to {E} t (Ok m) most h all lead = kept {E = E} t (Ok m) h most m (nat_le m most) refl all lead refl
up_to {E} t (Err d) most h all lead = λ n _ small e. unread {E = E} t (Err d) h d refl n small e

-- more digits than one, with a zero in front, are no number
pub no_zero_first : (t : List ℕ) → 1 < length t → get_or t 0 0 ≡ 48 → (n : ℕ) → n < 2 ^ 64 → t ≡ decimal n → ⊥
no_zero_first t long zero n small e =
    ⊎_elim
    (λ some. omega (arith, first_decimal n some small, ap (λ l. get_or l 0 0) e))
    (λ none.
    let is : n ≡ 0 = omega arith in
    omega (arith, ap length (e ∙ ap decimal is ∙ decimal_digit 0 (omega arith))))
    (order 0 n)

-- no number is written as a text that is refused
pub no_number : (f : Fault) (most c : ℕ) (t : List ℕ) → BadNumber f most c t → NoNumber most t
no_number Memory most c t h n le small e = h
no_number Shape most c t h n le small e = h
no_number Key most c t h n le small e = h
no_number (Digit at) most c t h n le small e =
    h.3 (subst (λ l. IsInRange 48 57 (get_or l h.0 0)) (sym e) (digits_decimal own n small h.0 (subst (λ l. h.0 < length l) e h.2)))
no_number Half most c t h n le small e = h
no_number Number most c t h n le small e = h n le small e
no_number Long most c t h n le small e = h
no_number (Text at) most c t h n le small e = h

-- and a number has a digit, and no blank
pub plain_decimal : (n : ℕ) → n < 2 ^ 64 → Plain (decimal n)
plain_decimal n small = (decimal_nonempty n small, λ k lt e. let d = digits_decimal own n small k lt in omega arith)

-- no byte of a number is below the digit zero
pub decimal_lacks : (s n : ℕ) → s < 48 → n < 2 ^ 64 → LacksByte s (decimal n)
decimal_lacks s n low small k lt e = let d = digits_decimal own n small k lt in omega arith
