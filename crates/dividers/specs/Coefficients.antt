-- The coefficients of the generator as bytes in power form.
use Rattle.std.specs.Prelude.{ℕ, slice_index}
use Rattle.power_form.specs.Arithmetic.{alpha_byte}
use Rattle.generator.specs.Generator.{exponents}

-- The byte of the coefficient G_k.
unfoldable pub coefficient_byte : ℕ → ℕ
coefficient_byte k = alpha_byte (slice_index exponents k)
