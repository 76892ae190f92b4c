-- What an explanation of a description says.
use Rattle.description_explainer.specs.Names.{ℕ, Option, None, Some, Description, IsAccepted, IsFirstBroken, plan_for}
use Rattle.std.specs.Prelude.{◌≤◌}
use Rattle.description_explainer.specs.declared.place.Rule.{Rule}
use Rattle.description_explainer.specs.Places.{BreaksRule, rule_fault}

-- With `None` the description is accepted on each device that is large enough. With a rule, this is the first that it
-- breaks on each device.
abbrev pub ExplainsDescription : Description → Option Rule → Type 0
ExplainsDescription d None = (sectors : ℕ) → (plan_for d).total ≤ sectors → IsAccepted d sectors
ExplainsDescription d (Some r) = BreaksRule d r × ((sectors : ℕ) → IsFirstBroken d sectors (rule_fault r))
