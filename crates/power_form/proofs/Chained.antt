-- What the rule of the table of powers gives at each place.
use Rattle.std.proofs.Common.{◌≡◌, ℕ, zero, suc, ◌+◌, ◌<◌, true, T, eqb, List, [], ◌∷◌, length, get_or, sym, ap, ◌∙◌, subst, le_of_suc-le-suc, not-suc-le-zero, arith, eqb→eq}
use Rattle.power_form.specs.Arithmetic.{times_alpha, alpha_byte}
use Rattle.power_form.specs.Chain.{chain}
use Rattle.table.proofs.Tests.{both_left, both_right}

-- What the rule gives at each place, where the first is α^n.
from : (xs : List ℕ) (n : ℕ) → T (chain (alpha_byte n) xs) → (k : ℕ) → k < length xs → get_or xs k 0 ≡ alpha_byte (n + k)
unfolding alpha_byte chain
from [] n t k h = absurd (not-suc-le-zero h)
from (x ∷ xs) n t zero h = eqb→eq x (alpha_byte n) (both_left (eqb x (alpha_byte n)) (chain (times_alpha (alpha_byte n)) xs) t) ∙ ap alpha_byte (omega arith)
from (x ∷ xs) n t (suc k) h =
    from xs (suc n) (both_right (eqb x (alpha_byte n)) (chain (times_alpha (alpha_byte n)) xs) t) k (le_of_suc-le-suc h)
    ∙ ap alpha_byte (omega arith)

-- Any table that keeps the rule.
pub chain_at : (xs : List ℕ) → chain 1 xs ≡ true → (k : ℕ) → k < length xs → get_or xs k 0 ≡ alpha_byte k
unfolding alpha_byte
chain_at xs e k h = from xs 0 (subst T (sym e) tt) k h ∙ ap alpha_byte (omega arith)
