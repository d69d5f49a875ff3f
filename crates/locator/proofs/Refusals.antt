-- What a decoder may answer: each of its refusals is right, and a word that it accepts is the only one.
use Rattle.std.proofs.Common.{◌≡◌, ℕ, suc, ◌+◌, ◌<◌, cond, List, [], ◌∷◌, length, sym, refl, ap, ◌∙◌, subst, arith}
use Rattle.field.specs.Polynomial.{value, Vanishes}
use Rattle.field.proofs.Ring.{Lawful}
use Rattle.polynomial.specs.Words.{distance}
use Rattle.code.specs.Code.{Code, root}
use Rattle.generator.specs.Claims.{Fits}
use Rattle.locator.specs.Applied.{deflated}
use Rattle.locator.specs.Recurrence.{Recurrence}
use Rattle.locator.specs.Correction.{Syndromes, Near, Repaired, root_places}
use Rattle.locator.proofs.Corrected.{tells}

-- a word has no distance from itself
pub distance_self : {K : Type 0} (F : Lawful K) (w : List K) → distance F.ops w w ≡ 0
unfolding distance
distance_self F [] = refl
distance_self F (a ∷ w) = ap (λ b. cond b (distance F.ops w w) (suc (distance F.ops w w))) ((F.laws.sameness a a).1 refl) ∙ distance_self F w

module _ {K : Type 0} (F : Lawful K) (c : Code) where
  -- a received word whose syndromes vanish is near enough to itself
  pub near_itself : (received : List K) → length received ≡ c.symbols → Vanishes F.ops (root F.ops c) c.checks received → Near F.ops c received received
  near_itself received long clean = record { long = long; codeword = record { long = long; zero_at_roots = clean }; close = omega (arith, distance_self F received) }

  module _ (fits : Fits F.ops c) (received : List K) (t : ℕ → K) (begins : Syndromes F.ops c received t)
      (poly : List K) (degree : ℕ) (old : List K) (miss : K) (r : Recurrence F.ops t c.checks poly degree old miss) where
    pub refused_degree : c.checks < degree + degree → (w : List K) → Near F.ops c received w → ⊥
    refused_degree many w near = absurd (omega (arith, (tells F c fits received w near t begins poly degree old miss r).few))

    pub refused_count : (root_places F.ops c poly c.symbols ≡ degree → ⊥) → (w : List K) → Near F.ops c received w → ⊥
    refused_count other w near = other (tells F c fits received w near t begins poly degree old miss r).count

    pub refused_double : (y : K) → value F.ops poly y ≡ F.ops.nought → value F.ops (deflated F.ops y poly) y ≡ F.ops.nought → (w : List K) → Near F.ops c received w → ⊥
    refused_double y root double w near = (tells F c fits received w near t begins poly degree old miss r).simple y root double

    pub refused_look : (after : List K) → Repaired F.ops c t poly c.symbols received after → (Vanishes F.ops (root F.ops c) c.checks after → ⊥)
        → (w : List K) → Near F.ops c received w → ⊥
    refused_look after repaired bad w near =
        bad (subst (Vanishes F.ops (root F.ops c) c.checks) (sym ((tells F c fits received w near t begins poly degree old miss r).corrected after repaired)) near.codeword.zero_at_roots)
