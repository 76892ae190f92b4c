-- The sectors of a directory.
use Rattle.layout.specs.Names.{ℕ, zero, suc, List, [], length, take, drop, Sums}
use Rattle.std.specs.Prelude.{◌≡◌, ◌+◌, ◌*◌, ◌/◌, ◌<◌, ◌∷◌}
use Rattle.device.specs.Disk.{Image}
use Rattle.model.specs.declared.geometry.Geometry.{Geometry}
use Rattle.layout.specs.declared.directory.Entry.{Entry}
use Rattle.layout.specs.Directory.{IsDirectory}
use Rattle.layout.specs.sealed.Root.{directory_sums}
use Rattle.layout.specs.sealed.Sector.{seal_in, sector_bytes}

-- the object and the slot of each entry
abbrev pub entry_numbers : List Entry → List ℕ
entry_numbers [] = []
entry_numbers (e ∷ es) = e.object ∷ e.slot ∷ entry_numbers es

-- the sector of these entries
unfoldable pub entries_bytes : List Entry → List ℕ
entries_bytes es = sector_bytes (entry_numbers es)

-- how many sectors n entries take
abbrev pub directory_length : ℕ → ℕ
directory_length n = (n + 29) / 30

-- the entries of sector k: 30, but in the last
abbrev pub piece : List Entry → ℕ → List Entry
piece es k = take 30 (drop (30 * k) es)

-- the first k of the sectors from `at` on have the first entries
abbrev pub HaveEntries : Image → ℕ → List Entry → ℕ → Type 0
HaveEntries image at es k = (j : ℕ) → j < k → image (at + j) ≡ entries_bytes (piece es j)

-- the sectors from `at` on are those of the entries
abbrev pub AreEntries : Image → ℕ → List Entry → Type 0
AreEntries image at es = HaveEntries image at es (directory_length (length es))

-- the seals of the first k sectors, the last first
abbrev pub seals_of : List Entry → ℕ → List Sums
seals_of es zero = []
seals_of es (suc k) = seal_in (entries_bytes (piece es k)) ∷ seals_of es k

-- the directory sums of the entries: those of the seals of all sectors
abbrev pub sums_of_entries : List Entry → Sums
sums_of_entries es = directory_sums (seals_of es (directory_length (length es)))

-- the sectors from `at` on are those of the entries, which are a directory and have these sums
pub record HasEntries (image : Image) (at : ℕ) (g : Geometry) (sums : Sums) (es : List Entry) : Type 0 where
  pub fits : IsDirectory g es
  pub sectors : AreEntries image at es
  pub sums_are : sums_of_entries es ≡ sums
