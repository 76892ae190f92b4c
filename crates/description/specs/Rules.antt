-- Which rule a description breaks first, and so with which fault no image is built.
use Rattle.description.specs.Names.{ℕ, List, Frame, AreNamed, Version, version_number, MayBeLaid, plan_from, Plan, One}
use Rattle.description.specs.Names.{Two, Three, AreBanked, Members}
use Rattle.std.specs.Prelude.{◌≡◌, ◌^◌, ◌<◌, ◌≤◌, ◌==◌, if◌then◌else◌}
use Rattle.description.specs.declared.fault.BuildFault.{BuildFault}
use Rattle.description.specs.declared.fault.BuildFault.TheVariants.{Shape, NoMemory}
use Rattle.description.specs.declared.fault.BuildFault.TheVariants.{Failed, Field, Limits, Number, Owner, Small, Target}
use Rattle.description.specs.Faults.{fault_number}
use Rattle.description.specs.declared.entry.Description.{Description}
use Rattle.description.specs.Described.{HasFields, HasNumbers, IsDescribed}
use Rattle.description.specs.Reading.{IsDescription}

-- the layout version with this number; for any other number, version 1
abbrev pub version_of : ℕ → Version
version_of n = if n == 2 then Two else (if n == 3 then Three else One)

-- where the parts lie in an image that is built from the description
abbrev pub plan_for : Description → Plan
plan_for d = plan_from (version_of d.layout) d.geometry d.ranges.items

-- the layout is a version, and an image may have these sizes, ranges and age
pub record IsWithinLimits (d : Description) : Type 0 where
  pub layout : (v : Version) × (d.layout ≡ version_number v)
  pub laid : MayBeLaid d.geometry d.ranges.items
  pub age : d.age ≤ 2 ^ 62

-- the rule whose breaking is reported as this fault, on a device of `sectors` sectors
abbrev pub Rule : Description → ℕ → BuildFault → Type 0
Rule d sectors Limits = IsWithinLimits d
Rule d sectors Number = HasNumbers d
Rule d sectors Field = HasFields d
Rule d sectors Target = (frames : List Frame) × IsDescribed d frames × AreNamed frames
Rule d sectors Owner = (frames : List Frame) × IsDescribed d frames × AreBanked frames
Rule d sectors Small = (plan_for d).total ≤ sectors
Rule d sectors _ = Unit {0}

-- the description keeps all rules
abbrev pub IsAccepted : Description → ℕ → Type 0
IsAccepted d sectors = (fault : BuildFault) → Rule d sectors fault

-- the rule of this fault is broken, and no rule of a lesser fault is
pub record IsFirstBroken (d : Description) (sectors : ℕ) (fault : BuildFault) : Type 0 where
  pub kept : (lesser : BuildFault) → fault_number lesser < fault_number fault → Rule d sectors lesser
  pub broken : Rule d sectors fault → ⊥

-- why no image is built: the first broken rule; if none is broken, a device failure; or lack of memory
abbrev pub IsRefused : Description → ℕ → BuildFault → Type 0
IsRefused d sectors Failed = IsAccepted d sectors
IsRefused d sectors NoMemory = Unit {0}
IsRefused d sectors fault = IsFirstBroken d sectors fault

-- why a table is refused: it is no description, its description is refused, or memory ran out
abbrev pub Refuses : Members → ℕ → BuildFault → Type 0
Refuses ms sectors Shape = (d : Description) → IsDescription ms d → ⊥
Refuses ms sectors NoMemory = Unit {0}
Refuses ms sectors fault = (d : Description) × IsDescription ms d × IsRefused d sectors fault

-- why the number of sectors of a table's image is unknown: it is no description, breaks the limits, or memory ran out
abbrev pub TellsNoSize : Members → BuildFault → Type 0
TellsNoSize ms Shape = (d : Description) → IsDescription ms d → ⊥
TellsNoSize ms Limits = (d : Description) × IsDescription ms d × (IsWithinLimits d → ⊥)
TellsNoSize ms NoMemory = Unit {0}
TellsNoSize ms _ = ⊥
