-- The first place where a description breaks the rule for fields.
use Rattle.description.specs.Names.{ℕ, List, map, None, Some, slice_get, take, IsSomeAnd, All}
use Rattle.std.specs.Prelude.{◌≡◌, ◌≢◌, ◌^◌, ◌<◌, ◌≤◌}
use Rattle.description.specs.Described.{AreDistinct, AreSlots, AreWords, IsProcessEntry, IsSomeCapability, IsSpaceEntry}
use Rattle.description.specs.declared.entry.Description.{Description}
use Rattle.description.specs.declared.entry.ProcessEntry.{ProcessEntry}
use Rattle.description.specs.declared.entry.SlotEntry.{SlotEntry}
use Rattle.description.specs.declared.flaw.Indexed.{Indexed}
use Rattle.description.specs.declared.flaw.Indexed.TheVariants as indexed
use Rattle.description.specs.declared.flaw.Part.{Part}
use Rattle.description.specs.declared.flaw.Part.TheVariants as part
use Rattle.description.specs.declared.flaw.SlotFlaw.{SlotFlaw}
use Rattle.description.specs.declared.flaw.SlotFlaw.TheVariants as slot

-- item i is bad, and all items before it are good
abbrev pub IsFirst : {A : Type 0} → (A → Type 0) → (A → Type 0) → List A → ℕ → Type 0
IsFirst Good Bad xs i = All Good (take i xs) × IsSomeAnd (slice_get xs i) Bad

-- item i is the first number outside a range
abbrev pub IsOutside : ℕ → ℕ → List ℕ → ℕ → Type 0
IsOutside first end ns i = IsFirst (λ n. (first ≤ n) × (n < end)) (λ n. (first ≤ n) × (n < end) → ⊥) ns i

-- the numbers at places i and j are equal
abbrev pub IsTwice : List ℕ → ℕ → ℕ → Type 0
IsTwice ns i j = (i < j) × (n : ℕ) × (slice_get ns i ≡ Some n) × (slice_get ns j ≡ Some n)

-- place j is the first whose number also stands at an earlier place, and i is that place
abbrev pub IsFirstTwice : List ℕ → ℕ → ℕ → Type 0
IsFirstTwice ns i j = AreDistinct (take j ns) × IsTwice ns i j

-- the first index out of range; if there is none, the first that occurs twice
unfoldable pub BreaksIndexed : ℕ → ℕ → List ℕ → Indexed → Type 0
BreaksIndexed first end indexes (indexed.OutOfRange i) = IsOutside first end indexes i
BreaksIndexed first end indexes (indexed.Twice i j) =
    All (λ n. (first ≤ n) × (n < end)) indexes × IsFirstTwice indexes i j

-- the first bad index; if there is none, the first text that names no capability
unfoldable pub BreaksSlots : ℕ → List SlotEntry → SlotFlaw → Type 0
BreaksSlots first slots (slot.Index i) = BreaksIndexed first 32 (map (λ s. s.index) slots) i
BreaksSlots first slots (slot.Text i) =
    (All (λ n. (first ≤ n) × (n < 32)) (map (λ s. s.index) slots) × AreDistinct (map (λ s. s.index) slots))
    × IsFirst (λ s. IsSomeCapability s.capability) (λ s. IsSomeCapability s.capability → ⊥) slots i

-- the first bad field of a process: its state, key, space or registers, in this order
unfoldable pub BreaksProcess : ProcessEntry → Part → Type 0
BreaksProcess p (part.State k) = p.state ≡ None
BreaksProcess p (part.Key k) = (p.state ≢ None) × (2 ^ 16 ≤ p.key)
BreaksProcess p (part.Space k) = (p.state ≢ None) × (p.key < 2 ^ 16) × (IsSpaceEntry p.space → ⊥)
BreaksProcess p (part.Registers k flaw) =
    (p.state ≢ None) × (p.key < 2 ^ 16) × IsSpaceEntry p.space × BreaksSlots 1 p.registers.items flaw
BreaksProcess p _ = ⊥

-- the index of the process with this part
abbrev pub process_of : Part → ℕ
process_of (part.State k) = k
process_of (part.Key k) = k
process_of (part.Space k) = k
process_of (part.Registers k flaw) = k
process_of _ = 0

-- the first bad field of the first bad process; if there is none, of the first bad node, else of the first bad page
abbrev pub BreaksField : Description → Part → Type 0
BreaksField d (part.Slots k flaw) = All IsProcessEntry d.processes.items
    × IsFirst (λ n. AreSlots 0 n.slots.items) (λ n. BreaksSlots 0 n.slots.items flaw) d.nodes.items k
BreaksField d (part.Words k flaw) =
    All IsProcessEntry d.processes.items × All (λ n. AreSlots 0 n.slots.items) d.nodes.items
    × IsFirst (λ p. AreWords p.words.items) (λ p. BreaksIndexed 0 512 (map (λ w. w.index) p.words.items) flaw)
    d.pages.items k
BreaksField d which = IsFirst IsProcessEntry (λ p. BreaksProcess p which) d.processes.items (process_of which)
