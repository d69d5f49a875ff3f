use Rattle.std.proofs.Common.{◌+◌, ◌-◌, get_or, sym, ap, ◌∙◌, ap₂, arith}
use Rattle.std.proofs.lemmas.List.{get_or-replicate}
use Rattle.dividers.specs.Bits.{pushed}
use Rattle.dividers.proofs.Serial.{pushed_next, pushed_none, pushed_all}
use Rattle.dividers.proofs.products.products_in.Goals as goal

pub loop-bit-init : goal.loop-bit-init
loop-bit-init c = λ k h. ap (pushed 8 c.args.f (get_or c.args.masks.now k 0)) (get_or-replicate 32 k 0 0 h)

pub loop-bit-preserved : goal.loop-bit-preserved
loop-bit-preserved c = λ k h.
    let i = c.loop-bit._bit in
    let mask = get_or c.args.masks.now k 0 in
    ap₂ (λ z p. pushed (8 - (i + 1)) z mask p) c.beta_times-z.ensures (c.push_bits.ensures k h)
    ∙ pushed_next i c.loop-bit.z mask (get_or c.loop-bit.products k 0) c.loop-bit-test.true
    ∙ c.loop-bit.invariant k h

pub returns : goal.returns
returns c = λ k h.
    let masks = c.args.masks.now in
    pushed_all masks c.requires.rule c.args.f k _ (omega arith) h
    (sym (pushed_none c.loop-bit._bit c.loop-bit.z (get_or masks k 0) _ c.loop-bit-test.false) ∙ c.loop-bit.invariant k h)
