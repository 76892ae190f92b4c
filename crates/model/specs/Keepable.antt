-- Which frames can be kept: written to a device and read back.
use Rattle.model.specs.Names.{ℕ, List, [], length, slice_index_or, All}
use Rattle.std.specs.Prelude.{◌≡◌, ◌+◌, ◌^◌, ◌<◌, ◌≤◌, ◌∷◌}
use Rattle.model.specs.declared.capability.Cap.{Cap}
use Rattle.model.specs.declared.capability.Capability.{Capability}
use Rattle.model.specs.declared.capability.Capability.TheVariants.{Void, Number, Page, Node, Space, Process, Start}
use Rattle.model.specs.declared.capability.Capability.TheVariants.{Resume, Bank, Discrim}
use Rattle.model.specs.declared.frame.Frame.{Frame}
use Rattle.model.specs.declared.frame.ObjectHeader.{ObjectHeader}
use Rattle.model.specs.declared.geometry.Geometry.{Geometry}
use Rattle.model.specs.declared.object.Content.{Content}
use Rattle.model.specs.declared.object.Content.TheVariants as content
use Rattle.model.specs.declared.object.Role.TheVariants.{Free}
use Rattle.model.specs.Capability.{IsAccess}
use Rattle.model.specs.Frame.{frame_at, headers, current_count, objects_of, void_held}
use Rattle.model.specs.Object.{role_of}
use Rattle.model.specs.Sound.{IsSound, IsSpace, IsOfKind, object_count}
use Rattle.model.specs.World.{World}

-- the number of a node, the number of a page, and a count; each fits in 64 bits
abbrev pub IsNodeNumber : Geometry → ℕ → Type 0
IsNodeNumber g n = (n < g.nodes) × (n < 2 ^ 64)

abbrev pub IsPageNumber : Geometry → ℕ → Type 0
IsPageNumber g n = (g.nodes ≤ n) × (n < g.nodes + g.pages) × (n < 2 ^ 64)

abbrev pub IsCount : ℕ → ℕ → Type 0
IsCount age n = (n ≤ age) × (n < 2 ^ 64)

-- what `IsKeptCap` requires of a capability of each kind that is held with this count
abbrev pub Follows : Geometry → ℕ → ℕ → Capability → Type 0
Follows g age count Void = count ≡ 0
Follows g age count (Number n) = (n < 2 ^ 64) × (count ≡ 0)
Follows g age count (Page o a) = IsAccess a × IsPageNumber g o × IsCount age count
Follows g age count (Node o a) = IsAccess a × IsNodeNumber g o × IsCount age count
Follows g age count (Space o h a) = IsAccess a × (1 ≤ h) × (h ≤ 4) × IsNodeNumber g o × IsCount age count
Follows g age count (Process p) = IsNodeNumber g p × IsCount age count
Follows g age count (Start p key) = (key < 2 ^ 16) × IsNodeNumber g p × IsCount age count
Follows g age count (Resume p) = IsNodeNumber g p × IsCount age count
Follows g age count (Bank b) = IsNodeNumber g b × IsCount age count
Follows g age count Discrim = count ≡ 0

-- the number that a capability names is one for its kind of object: pages from g.nodes on, all others below
abbrev pub IsTarget : Geometry → Capability → Type 0
IsTarget g Void = Unit {0}
IsTarget g (Number n) = Unit {0}
IsTarget g (Page o a) = (g.nodes ≤ o) × (o < object_count g)
IsTarget g (Node o a) = o < g.nodes
IsTarget g (Space o h a) = o < g.nodes
IsTarget g (Process p) = p < g.nodes
IsTarget g (Start p key) = p < g.nodes
IsTarget g (Resume p) = p < g.nodes
IsTarget g (Bank b) = b < g.nodes
IsTarget g Discrim = Unit {0}

-- a capability that may be held, live or stale
abbrev pub IsKeptCap : Geometry → ℕ → Cap → Type 0
IsKeptCap g age c = Follows g age c.count c.what

-- 32 slots, each with a capability that may be held
pub record AreKeptSlots (g : Geometry) (age : ℕ) (slots : List Cap) : Type 0 where
  pub count : length slots ≡ 32
  pub each : All (IsKeptCap g age) slots

-- a list of `count` words of 64 bits
pub record AreKeptWords (count : ℕ) (words : List ℕ) : Type 0 where
  pub count_is : length words ≡ count
  pub each : All (λ w. w < 2 ^ 64) words

-- what each kind of content requires, whatever its number
abbrev pub MayBeKept : Geometry → ℕ → Content Cap → Type 0
MayBeKept g age content.Free = Unit {0}
MayBeKept g age (content.Page words) = AreKeptWords 512 words
MayBeKept g age (content.Node slots) = AreKeptSlots g age slots
MayBeKept g age (content.Root root) =
    AreKeptWords 4 root.words × (root.key < 2 ^ 16) × (root.annex < 2 ^ 64) × IsKeptCap g age root.space × IsSpace
    root.space.what
MayBeKept g age (content.Annex registers) = AreKeptSlots g age registers ×
    (slice_index_or registers 0 void_held ≡ void_held)
MayBeKept g age (content.Bank limit) = limit < 2 ^ 64

-- a frame that can be kept at this age
pub record IsKept (g : Geometry) (age : ℕ) (f : Frame) : Type 0 where
  pub role : f.header.role ≡ role_of f.content
  pub allocations : IsCount age f.header.allocations
  pub calls : IsCount age f.header.calls
  pub owner : f.header.owner < 2 ^ 64
  pub unowned : f.header.role ≡ Free → f.header.owner ≡ 0
  pub content : MayBeKept g age f.content

-- a frame that can be kept at this age, as object n
pub record IsKeepable (g : Geometry) (age n : ℕ) (f : Frame) : Type 0 where
  pub kind : IsOfKind g n f.content
  pub kept : IsKept g age f

-- there is a frame for each object number, and each frame can be kept
pub record AreKeepable (g : Geometry) (age : ℕ) (fs : List Frame) : Type 0 where
  pub count : length fs ≡ object_count g
  pub each : (n : ℕ) → n < object_count g → IsKeepable g age n (frame_at fs n)

-- the capabilities that a content holds
abbrev pub caps_in : Content Cap → List Cap
caps_in (content.Node slots) = slots
caps_in (content.Root root) = root.space ∷ []
caps_in (content.Annex registers) = registers
caps_in _ = []

-- a capability is live or stale: its count is never above its object's
abbrev pub IsCurrent : List ObjectHeader → Cap → Type 0
IsCurrent hs c = c.count ≤ current_count hs c.what

abbrev pub AreCurrent : List Frame → Type 0
AreCurrent fs = (n : ℕ) → All (IsCurrent (headers fs)) (caps_in (frame_at fs n).content)

-- the world of these frames at an age
abbrev pub world_at : ℕ → List Frame → World
world_at age fs = record { objects = objects_of fs; age = age }

-- frames that can be kept, and whose world is sound
pub record IsSoundFrames (g : Geometry) (age : ℕ) (fs : List Frame) : Type 0 where
  pub keepable : AreKeepable g age fs
  pub current : AreCurrent fs
  pub sound : IsSound g (world_at age fs)
