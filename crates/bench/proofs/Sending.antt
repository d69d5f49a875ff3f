-- Registers that are sent, R_31 first.
use Rattle.std.proofs.Common.{◌≡◌, ℕ, Bool, true, false, cond, List, [], ◌∷◌, ◌++◌, map, reverse, length, Ok, Err, Result, refl, sym, ap, ◌∙◌, arith}
use Rattle.std.proofs.lemmas.List.{reverse-append, map_push, append_assoc, append-nil}
use Rattle.tokens.specs.Bytes.{two_digits, spelled}
use Rattle.dual_form.specs.declared.element.Dual.{Dual}
use Rattle.bank.specs.declared.fault.BankFault.{BankFault}
use Rattle.bank.specs.declared.fault.BankFault.TheVariants.{NoSuchRegister}
use Rattle.bench.specs.Lines.{sent}

sent_behind : (x : Dual) (rest : List Dual) → sent (x ∷ rest) ≡ sent rest ++ (x.byte ∷ [])
unfolding sent
sent_behind x rest = ap (map (λ x. x.byte)) (reverse-append (x ∷ []) rest) ∙ map_push (λ x. x.byte) (reverse rest) x

sent_turned : (registers : List Dual) → reverse (map (λ x. x.byte) registers) ≡ sent registers
unfolding sent
sent_turned [] = refl
sent_turned (x ∷ rest) =
    reverse-append (x.byte ∷ []) (map (λ x. x.byte) rest) ∙ ap (λ l. l ++ (x.byte ∷ [])) (sent_turned rest) ∙ sym (sent_behind x rest)

-- The bytes that were read of a lane that is there, the last first.
pub sent_read : (there : Bool) (registers : List Dual) (bytes other : List ℕ) (r : Result (List ℕ) BankFault)
    → r ≡ cond there (Ok (map (λ x. x.byte) registers)) (Err NoSuchRegister) → r ≡ Ok bytes → cond there (spelled (sent registers)) other ≡ spelled (reverse bytes)
sent_read true registers bytes other r told is =
    let read : map (λ x. x.byte) registers ≡ bytes = cc in
    ap spelled (sym (sent_turned registers)) ∙ ap (λ l. spelled (reverse l)) read
sent_read false registers bytes other r told is = absurd cc

-- Nothing is left to write.
pub spelled_none : (text rest : List ℕ) → length rest ≡ 0 → text ++ spelled (reverse rest) ≡ text
spelled_none text [] none = append-nil text
spelled_none text (b ∷ rest) none = absurd (omega arith)

-- The last byte is written first.
pub spelled_last : (text rest : List ℕ) (b : ℕ) → (text ++ two_digits b) ++ spelled (reverse rest) ≡ text ++ spelled (reverse (rest ++ b ∷ []))
spelled_last text rest b = append_assoc text (two_digits b) (spelled (reverse rest)) ∙ ap (λ l. text ++ spelled l) (sym (reverse-append rest (b ∷ [])))
