-- Laws carried over along two maps that undo one another.
use Rattle.std.proofs.Common.{◌≡◌, ℕ, zero, suc, sym, refl, ap, ◌∙◌, ap₂}
use Rattle.std.proofs.lemmas.Bool.Decides.{Decides-like}
use Rattle.field.specs.Field.{Ops, Laws, power, carried, mapped}

module _ {A B : Type 0} (o : Ops A) (to : A → B) (from : B → A) (back : (x : A) → from (to x) ≡ x) where
  pub carried_power : (x : A) (n : ℕ) → power (carried o to from) (to x) n ≡ to (power o x n)
  unfolding power
  carried_power x zero = refl
  carried_power x (suc n) = ap to (ap₂ o.product (back x) (ap from (carried_power x n) ∙ back (power o x n)))

  pub carried_laws : Laws o → ((y : B) → to (from y) ≡ y) → Laws (carried o to from)
  carried_laws laws forth = record {
    sum_assoc = λ x y z.
        ap to (ap (λ a. o.sum a (from z)) (back (o.sum (from x) (from y))) ∙ laws.sum_assoc (from x) (from y) (from z)
        ∙ sym (ap (o.sum (from x)) (back (o.sum (from y) (from z)))));
    sum_comm = λ x y. ap to (laws.sum_comm (from x) (from y));
    sum_nought = λ x. ap to (ap (λ a. o.sum a (from x)) (back o.nought) ∙ laws.sum_nought (from x)) ∙ forth x;
    sum_self = λ x. ap to (laws.sum_self (from x));
    product_assoc = λ x y z.
        ap to (ap (λ a. o.product a (from z)) (back (o.product (from x) (from y))) ∙ laws.product_assoc (from x) (from y) (from z)
        ∙ sym (ap (o.product (from x)) (back (o.product (from y) (from z)))));
    product_comm = λ x y. ap to (laws.product_comm (from x) (from y));
    product_unit = λ x. ap to (ap (λ a. o.product a (from x)) (back o.unit) ∙ laws.product_unit (from x)) ∙ forth x;
    distributes = λ x y z.
        ap to (ap (o.product (from x)) (back (o.sum (from y) (from z))) ∙ laws.distributes (from x) (from y) (from z)
        ∙ sym (ap₂ o.sum (back (o.product (from x) (from y))) (back (o.product (from x) (from z)))));
    differ = λ e. laws.differ (injective e);
    no_reciprocal = ap (λ a. mapped to (o.reciprocal a)) (back o.nought) ∙ ap (mapped to) laws.no_reciprocal;
    has_reciprocal = λ x ne.
        let r = laws.has_reciprocal (from x) (λ e. ne (sym (forth x) ∙ ap to e)) in
        (to r.0, ap (mapped to) r.1, ap to (ap (o.product (from x)) (back r.0) ∙ r.2));
    sameness = λ x y. Decides-like (o.same (from x) (from y)) (λ e. sym (forth x) ∙ ap to e ∙ forth y) (ap from) (laws.sameness (from x) (from y));
    powers_differ = λ i j hi hj e. laws.powers_differ i j hi hj (injective (sym (carried_power o.alpha i) ∙ e ∙ carried_power o.alpha j));
    period = carried_power o.alpha o.order ∙ ap to laws.period;
  }
    where
      injective : {x y : A} → to x ≡ to y → x ≡ y
      injective {x} {y} e = sym (back x) ∙ ap from e ∙ back y
