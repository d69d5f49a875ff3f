use Rattle.std.proofs.Common.{◌≡◌, ℕ, length, take, sym, ap, ◌∙◌, ap₂, arith}
use Rattle.field.specs.Polynomial.{value}
use Rattle.polynomial.specs.Coefficients.{coeff}
use Rattle.polynomial.proofs.Lawful.{lawful}
use Rattle.polynomial.proofs.Entries.{coeff_read}
use Rattle.correction.proofs.Rows.{changed_none, changed_here, changed_next, sum_none, sum_next}
use Rattle.correction.proofs.repair.next_sum.Goals as goal

pub loop-j-init : goal.loop-j-init
loop-j-init g c =
    let F = lawful g.met.F.Field.laws in
    (changed_none F (λ j a. F.ops.product (coeff F.ops c.args.steps.now j) a) c.args.terms.now, c.zero-sum.ensures ∙ sym (sum_none F c.args.terms.now))

pub loop-j-preserved : goal.loop-j-preserved
loop-j-preserved g c =
    let F = lawful g.met.F.Field.laws in
    let next = λ (j : ℕ) (a : _). F.ops.product (coeff F.ops c.args.steps.now j) a in
    let here = c.loop-j in (
      changed_next F next c.args.terms.now here.terms here.j c.index-terms-j.result c.times.result (omega arith) c.index-terms-j.is
          (c.times.ensures ∙ ap₂ F.ops.product (coeff_read F.ops c.args.steps.now here.j c.index-steps-j.result (omega arith) c.index-steps-j.is) (sym c.index-terms-j.is)) here.invariant.0,
      sum_next F c.args.terms.now here.j c.index-terms-j.result c.plus-sum.result here.sum
          (changed_here F next c.args.terms.now here.terms here.j c.index-terms-j.result (omega arith) c.index-terms-j.is here.invariant.0)
          (c.plus-sum.ensures ∙ ap (F.ops.sum here.sum) (sym c.index-terms-j.is)) here.invariant.1,
    )

pub returns : goal.returns
returns g c =
    let o = g.F.Field.ops in
    let e : c.loop-j.j ≡ length c.args.steps.now = omega arith in
    record {
      sum = c.loop-j.invariant.1 ∙ ap (λ n. value o (take n c.args.terms.now) o.unit) e;
      terms = λ j h. c.loop-j.invariant.0.0 j (omega arith);
      rest = λ j h. c.loop-j.invariant.0.1 j (omega arith);
    }
