-- The directory of a checkpoint.
use Rattle.layout.specs.Names.{ℕ, List, length, slice_index_or, All, flat_map, Geometry}
use Rattle.std.specs.Prelude.{◌≡◌, ◌+◌, ◌^◌, ◌<◌, ◌++◌}
use Rattle.layout.specs.declared.directory.Entry.{Entry}
use Rattle.layout.specs.Bytes.{number}

-- the 16 bytes of an entry
abbrev pub entry_bytes : Entry → List ℕ
entry_bytes e = number e.object ++ number e.slot

-- the bytes of a directory
unfoldable pub directory_bytes : List Entry → List ℕ
directory_bytes es = flat_map entry_bytes es

abbrev pub entry_at : List Entry → ℕ → Entry
entry_at es i = slice_index_or es i (record { object = 0; slot = 0 })

-- an entry names an object of the device and a slot of a log half
pub record IsEntry (g : Geometry) (e : Entry) : Type 0 where
  pub object : e.object < g.nodes + g.pages
  pub slot : e.slot < g.log
  pub object_fits : e.object < 2 ^ 64
  pub slot_fits : e.slot < 2 ^ 64

-- each object has a greater number than the one before it
abbrev pub AreRising : List Entry → Type 0
AreRising es = (i : ℕ) → i + 1 < length es → (entry_at es i).object < (entry_at es (i + 1)).object

-- no slot occurs twice
abbrev pub HaveOwnSlots : List Entry → Type 0
HaveOwnSlots es = (i j : ℕ) → i < j → j < length es → (entry_at es i).slot ≡ (entry_at es j).slot → ⊥

-- a valid directory: its entries are valid, their objects rise, and their slots differ
pub record IsDirectory (g : Geometry) (es : List Entry) : Type 0 where
  pub each : All (IsEntry g) es
  pub rising : AreRising es
  pub apart : HaveOwnSlots es

-- the object and slot of each entry are below 2^64
abbrev pub AllFitting : List Entry → Type 0
AllFitting es = All (λ e. (e.object < 2 ^ 64) × (e.slot < 2 ^ 64)) es
