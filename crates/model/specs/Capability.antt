-- Capabilities: their access, what they name, and the diminished ones.
use Rattle.std.specs.Prelude.{◌≡◌, ◌⊎◌, ℕ, ◌^◌, ◌<◌, ◌≤◌, Option, None, Some, bit_or}
use Rattle.model.specs.declared.access.Access.{Access}
use Rattle.model.specs.declared.capability.Capability.{Capability}
use Rattle.model.specs.declared.capability.Capability.TheVariants.{Void, Number, Page, Node, Space, Process, Start}
use Rattle.model.specs.declared.capability.Capability.TheVariants.{Resume, Bank, Discrim}

-- full access, and that of a capability that is read-only and weak
abbrev pub full : Access
full = record { 0 = 0 }

abbrev pub weak : Access
weak = record { 0 = 3 }

-- the accesses that exist: full, read-only, and read-only and weak
abbrev pub IsAccess : Access → Type 0
IsAccess a = (a.0 ≡ 0) ⊎ (a.0 ≡ 1) ⊎ (a.0 ≡ 3)

-- an access with the restrictions `bits` added
abbrev pub union : Access → ℕ → Access
union a bits = record { 0 = bit_or a.0 bits }

-- the object that a capability names (an object with a right is a capability: EROS)
abbrev pub named : Capability → Option ℕ
named (Page o a) = Some o
named (Node o a) = Some o
named (Space o h a) = Some o
named (Process p) = Some p
named (Start p key) = Some p
named (Resume p) = Some p
named (Bank b) = Some b
named _ = None

-- a capability's access, or 0 if it has none
abbrev pub access_bits : Capability → ℕ
access_bits (Page o a) = a.0
access_bits (Node o a) = a.0
access_bits (Space o h a) = a.0
access_bits _ = 0

-- the capability that a fetch through a weak one gives (EROS: weak, KeyKOS: sense)
abbrev pub diminished : Capability → Capability
diminished (Number n) = Number n
diminished (Page o a) = Page o weak
diminished (Node o a) = Node o weak
diminished (Space o h a) = Space o h weak
diminished _ = Void

-- a capability that names no object, or is read-only and weak
abbrev pub IsWeak : Capability → Type 0
IsWeak (Page o a) = a.0 ≡ 3
IsWeak (Node o a) = a.0 ≡ 3
IsWeak (Space o h a) = a.0 ≡ 3
IsWeak c = elim (named c) [ None ↦ Unit {0} | Some n ↦ ⊥ ]

-- the number of a capability's kind, as `discrim` replies it
abbrev pub tag_of : Capability → ℕ
tag_of Void = 0
tag_of (Number n) = 1
tag_of (Page o a) = 2
tag_of (Node o a) = 3
tag_of (Space o h a) = 4
tag_of (Process p) = 5
tag_of (Start p key) = 6
tag_of (Resume p) = 7
tag_of (Bank b) = 8
tag_of Discrim = 9

-- a capability whose fields are within their bounds
abbrev pub IsWellFormed : Capability → Type 0
IsWellFormed (Number n) = n < 2 ^ 64
IsWellFormed (Page o a) = IsAccess a
IsWellFormed (Node o a) = IsAccess a
IsWellFormed (Space o h a) = (1 ≤ h) × (h ≤ 4) × IsAccess a
IsWellFormed (Start p key) = key < 2 ^ 16
IsWellFormed _ = Unit {0}
