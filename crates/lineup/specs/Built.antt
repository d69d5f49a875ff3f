-- The bank that is built for a text.
use Rattle.std.specs.Prelude.{◌≡◌, ℕ, List, ◌≢◌}
use Rattle.bank.specs.Lanes.{Lanes, beside, all_cleared, held}
use Rattle.bank.specs.declared.pair.Pair.{Pair}
use Rattle.rack.specs.Dividers.{Rack, divider_lanes}
use Rattle.rack.specs.Rows.{row}
use Rattle.rack.specs.Choices.{choice_lanes}
use Rattle.rack.specs.declared.choice.Choice.{Choice}
use Rattle.lineup.specs.declared.built.Built.{Built}
use Rattle.lineup.specs.Plans.{Plan, plan_text, Within, lanes_of, is_holder}

-- The most pairs and holders inside one another that a text may have.
abbrev pub deepest : ℕ
deepest = 64

-- The lanes of a rack.
abbrev pub rack_lanes : Rack → Lanes
rack_lanes r = row divider_lanes r.banks.items

-- The lanes of one rack, or of two side by side.
abbrev pub assembly_lanes : Choice Rack (Pair Rack Rack) → Lanes
assembly_lanes c = choice_lanes rack_lanes (λ p. beside (rack_lanes p.left) (rack_lanes p.right)) c

-- The lanes and the copy of what is built.
abbrev pub built_lanes : Built → Lanes
built_lanes b = assembly_lanes b.bank.bank

abbrev pub built_copy : Built → Lanes
built_copy b = held (built_lanes b) b.bank.copy

-- What is built for a text: the bank of the plan that it is the text of, with all registers and the copy zero.
pub record Builds (text : List ℕ) (b : Built) : Type 0 where
  pub plan : Plan
  pub within : Within deepest plan
  pub text_is : text ≡ plan_text plan
  pub lanes : built_lanes b ≡ lanes_of plan
  pub copy : built_copy b ≡ all_cleared (lanes_of plan)
  pub holds : b.holds ≡ is_holder plan

-- The text is that of no plan.
abbrev pub NoBank : List ℕ → Type 0
NoBank text = (p : Plan) → Within deepest p → text ≢ plan_text p
