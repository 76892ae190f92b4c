-- Sets of numbers that are closed for reading.
use Rattle.noninterference.specs.Names.{ℕ, Bool, None, Some, List, IsTrue, IsClosedBy, StartsOne, Capability, Object}
use Rattle.noninterference.specs.Names.{named, object_at}
use Rattle.std.specs.Prelude.{◌≡◌, ◌⊎◌}

-- the capability names a member of the set, or nothing
abbrev pub NamesMember : (ℕ → Bool) → Capability → Type 0
NamesMember inside c = elim (named c) [ None ↦ Unit {0} | Some n ↦ IsTrue (inside n) ]

-- the capability names a member of the set or nothing, or starts a trusted process
abbrev pub NamesBut : (ℕ → Bool) → (ℕ → Bool) → Capability → Type 0
NamesBut trusted inside c = NamesMember inside c ⊎ StartsOne trusted c

-- the set is closed for reading: its members hold no capability to anything outside, even a weak one, except to start
-- trusted processes
abbrev pub IsReadClosedBut : (ℕ → Bool) → List Object → (ℕ → Bool) → Type 0
IsReadClosedBut trusted os inside = IsClosedBy (NamesBut trusted inside) os inside

-- `os` and `us` have equal objects at the numbers of the set
abbrev pub HaveSame : (ℕ → Bool) → List Object → List Object → Type 0
HaveSame inside os us = (n : ℕ) → IsTrue (inside n) → object_at us n ≡ object_at os n
