-- What a search follows, and when a set is closed for it.
use Rattle.reach.specs.Names.{ℕ, Bool, List, IsClosedBy, StaysBut, NamesBut, Capability, Object}
use Rattle.reach.specs.declared.authority.Purpose.{Purpose}
use Rattle.reach.specs.declared.authority.Purpose.TheVariants as purpose

-- what to search for, and the trusted processes, whose start capabilities are not followed
pub record Links : Type 0 where
  pub purpose : Purpose
  pub trusted : ℕ → Bool

abbrev pub links : Purpose → (ℕ → Bool) → Links
links p trusted = record { purpose = p; trusted = trusted }

-- a capability stays inside a set: to change, as in `confinement`; to read, as in `noninterference`
abbrev pub StaysAs : Purpose → (ℕ → Bool) → (ℕ → Bool) → Capability → Type 0
StaysAs purpose.Change trusted inside c = StaysBut trusted inside c
StaysAs purpose.Read trusted inside c = NamesBut trusted inside c

-- a capability stays inside a set, for the purpose and the trusted processes of a search
abbrev pub StaysFor : Links → (ℕ → Bool) → Capability → Type 0
StaysFor l inside c = StaysAs l.purpose l.trusted inside c

-- a set is closed for the purpose of a search, but for trusted processes
abbrev pub IsClosedFor : Links → List Object → (ℕ → Bool) → Type 0
IsClosedFor l os inside = IsClosedBy (StaysAs l.purpose l.trusted inside) os inside
