use Rattle.std.proofs.Common.{◌≡◌, ◌≤◌, length, is_ok, vec_items, sym, ap, ◌∙◌, arith, length-append, rules}
use Rattle.std.proofs.ResultArms.{chosen}
use Rattle.std.proofs.lemmas.Result.{err_from_is_err_and}
use Rattle.tokens.specs.Bytes.{spelled}
use Rattle.tokens.proofs.Digits.{again, bad_pair, whole, odd}
use Rattle.tokens.proofs.hex.hex_bytes.Goals as goal

pub overflow_sub-bytes : goal.overflow_sub-bytes
overflow_sub-bytes c = omega (arith, ap length c.loop-rest.invariant, length-append (spelled (vec_items c.loop-rest.out)) c.loop-rest.rest.now)

pub returns-in_err-b : goal.returns-in_err-b
returns-in_err-b c =
    let some : 2 ≤ length c.loop-rest.rest.now = grind arith in
    let q = err_from_is_err_and c.from_residual.result c.from_residual.ensures.1 in
    rw (q.1, q.2) (bad_pair _ _ _ _ _ _ _ c.loop-rest.invariant c.as_bytes-bytes.ensures.value some c.saturating_add-column.ensures c.in_err-b.ensures)

pub loop-rest-preserved : goal.loop-rest-preserved
loop-rest-preserved c =
    let some : 2 ≤ length c.loop-rest.rest.now = grind arith in
    again _ _ _ _ c.in_ok-b.b c.loop-rest.invariant
    (chosen _ _ _ _ c.push.ensures.items (ap is_ok c.in_ok-push.was))
    some c.in_ok-b.ensures

pub returns-in-empty : goal.returns-in-empty
returns-in-empty c =
    let none : length c.loop-rest.rest.now ≡ 0 = search rules in
    sym c.as_bytes-bytes.ensures.value ∙ whole _ _ _ c.loop-rest.invariant none

pub returns-in_default-rest : goal.returns-in_default-rest
returns-in_default-rest c =
    let one : length c.loop-rest.rest.now ≡ 1 = search rules in
    odd _ _ _ _ c.loop-rest.invariant c.as_bytes-bytes.ensures.value one
