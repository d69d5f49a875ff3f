use Rattle.std.proofs.Common.{None, length, map, ap, sym, ◌∙◌, rules}
use Rattle.exponent_form.specs.declared.element.Logarithm.TheVariants.{Star}
use Rattle.generator.specs.Forms.{number}
use Rattle.generator.proofs.Computed.{exponent_coefficients}
use Rattle.generator.proofs.Lines.{mapped_each}
use Rattle.generator.proofs.exponents.coefficient_exponents.Goals as goal

pub returns : goal.returns
returns c =
    let known = c.generator.ensures ∙ exponent_coefficients in
    mapped_each number c.generator.result c.map.result Star None (c.map.ensures.items.long ∙ sym (ap length known))
    (λ i h. let k = c.map.ensures.items.at i Star None (search rules) in search rules)
    ∙ ap (map number) known
