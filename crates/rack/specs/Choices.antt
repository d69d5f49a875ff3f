-- One of two banks.
use Rattle.std.specs.Prelude.{◌≡◌, length}
use Rattle.bank.specs.Lanes.{Lanes, Shaped}
use Rattle.rack.specs.declared.choice.Choice.{Choice}
use Rattle.rack.specs.declared.choice.Choice.TheVariants.{First, Second}

-- The lanes of the bank that was chosen.
abbrev pub choice_lanes : {A B : Type 0} → (A → Lanes) → (B → Lanes) → Choice A B → Lanes
choice_lanes f g (First a) = f a
choice_lanes f g (Second b) = g b

module _ {A B : Type 0} (f : A → Lanes) (g : B → Lanes) where
  pub choice_shaped : ((a : A) → Shaped (f a)) → ((b : B) → Shaped (g b)) → (c : Choice A B) → Shaped (choice_lanes f g c)
  choice_shaped first second (First a) = first a
  choice_shaped first second (Second b) = second b

  pub choice_single : ((a : A) → length (f a) ≡ 1) → ((b : B) → length (g b) ≡ 1) → (c : Choice A B) → length (choice_lanes f g c) ≡ 1
  choice_single first second (First a) = first a
  choice_single first second (Second b) = second b
