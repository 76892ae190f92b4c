-- Why no image of a table is built, and the place.
use Rattle.description_explainer.specs.Names.{ℕ, List, Option, None, Some, Members, Description, IsDescribed}
use Rattle.description_explainer.specs.Names.{IsDescription, BuildFault, IsAccepted, Refuses, plan_for, BreaksField}
use Rattle.description_explainer.specs.Names.{BreaksShape, Frame, IsUnbanked, Unbanked}
use Rattle.std.specs.Prelude.{◌≤◌}
use Rattle.description.specs.declared.fault.BuildFault.TheVariants as fault
use Rattle.description_explainer.specs.declared.place.Place.{Place}
use Rattle.description_explainer.specs.declared.place.Place.TheVariants as place
use Rattle.description_explainer.specs.declared.place.Rule.{Rule}
use Rattle.description_explainer.specs.declared.place.Rule.TheVariants as rule
use Rattle.description.specs.Broken.{BreaksLimit, BreaksNumber, BreaksTarget}

-- the fault that `build` returns if this rule is the first broken one
abbrev pub rule_fault : Rule → BuildFault
rule_fault (rule.Limit l) = fault.Limits
rule_fault (rule.Number n) = fault.Number
rule_fault (rule.Field p) = fault.Field
rule_fault (rule.Target h) = fault.Target
rule_fault (rule.Owner u) = fault.Owner

-- the fault that `build` returns for this place
abbrev pub fault_of : Place → BuildFault
fault_of (place.Shape s) = fault.Shape
fault_of (place.Rule d r) = rule_fault r

-- the first place that breaks the rule for owners and banks
abbrev pub BreaksOwner : Description → Unbanked → Type 0
BreaksOwner d unbanked = (frames : List Frame) → IsDescribed d frames → IsUnbanked frames unbanked

-- this is the first place that breaks its rule
abbrev pub BreaksRule : Description → Rule → Type 0
BreaksRule d (rule.Limit l) = BreaksLimit d l
BreaksRule d (rule.Number n) = BreaksNumber d n
BreaksRule d (rule.Field p) = BreaksField d p
BreaksRule d (rule.Target h) = BreaksTarget d h
BreaksRule d (rule.Owner u) = BreaksOwner d u

-- this is the first place of a table that breaks its rule
abbrev pub Breaks : Members → Place → Type 0
Breaks ms (place.Shape s) = BreaksShape ms s
Breaks ms (place.Rule d r) = IsDescription ms d × BreaksRule d r

-- With `None` the table is a description that each large enough device accepts. With a place, the first broken rule
-- is broken there, and every device refuses the table with that rule's fault.
abbrev pub Explains : Members → Option Place → Type 0
Explains ms None = (d : Description) × IsDescription ms d ×
    ((sectors : ℕ) → (plan_for d).total ≤ sectors → IsAccepted d sectors)
Explains ms (Some place) = Breaks ms place × ((sectors : ℕ) → Refuses ms sectors (fault_of place))
