-- Steps of the search for a polynomial's first root.
use Rattle.std.proofs.Common.{◌≡◌, ℕ, ◌+◌, ◌<◌, ◌≤◌, List, true, false, Some, None, ap, sym, ◌∙◌}
use Rattle.field.specs.Field.{Ops, alpha_power}
use Rattle.field.specs.Polynomial.{value, first_root}
use Rattle.field.proofs.Firsts.{first_found, first_passed, first_none}
use Rattle.field.proofs.Horner.{power_next}

module _ {F : Type 0} (o : Ops F) (cs : List F) (n : ℕ) where
  pub root_found : (x : F) → x ≡ alpha_power o n → n < o.order → o.same (value o cs x) o.nought ≡ true → first_root o cs n ≡ Some n
  unfolding first_root
  root_found x here within root =
      first_found (λ k. o.same (value o cs (alpha_power o k)) o.nought) o.order n within (sym (ap (λ a. o.same (value o cs a) o.nought) here) ∙ root)

  pub root_passed : (x : F) → x ≡ alpha_power o n → n < o.order → o.same (value o cs x) o.nought ≡ false → first_root o cs (n + 1) ≡ first_root o cs n
  unfolding first_root
  root_passed x here within other =
      first_passed (λ k. o.same (value o cs (alpha_power o k)) o.nought) o.order n within (sym (ap (λ a. o.same (value o cs a) o.nought) here) ∙ other)

  pub no_root : o.order ≤ n → first_root o cs n ≡ None
  unfolding first_root
  no_root past = first_none (λ k. o.same (value o cs (alpha_power o k)) o.nought) o.order n past

pub ruleset root_steps = (root_found, root_passed, no_root, power_next)
