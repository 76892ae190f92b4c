-- Where the frame of an object lies in its block of sectors.
use Rattle.layout.specs.Names.{ℕ, Bool, List, length, take, drop, between, Geometry}
use Rattle.std.specs.Prelude.{◌≡◌, ◌⊎◌, ◌+◌, ◌-◌, ◌*◌, ◌<◌, ◌≤◌, ◌++◌, true, false}
use Rattle.layout.specs.declared.shape.Shape.{Shape}
use Rattle.layout.specs.declared.version.Version.{Version}
use Rattle.layout.specs.Bytes.{zeros}
use Rattle.layout.specs.Version.{row}

-- a node's frame lies in its cluster in the order of its rank
abbrev pub node_shape : Version → ℕ → Shape
node_shape v rank = record {
  sectors = (row v).cluster_sectors;
  offset = (row v).node_bytes * rank;
  bytes = (row v).node_bytes;
  has_sums = false;
}

-- a page's frame fills its block
abbrev pub page_shape : Version → Shape
page_shape v = record { sectors = 9; offset = 0; bytes = 4608; has_sums = (row v).sealed }

-- how many sectors a frame's block takes
abbrev pub shape_length : Shape → ℕ
shape_length s = s.sectors

-- the byte of the block where the frame ends
abbrev pub shape_end : Shape → ℕ
shape_end s = s.offset + s.bytes

-- a frame's bytes without its sums and seal
unfoldable pub blanked : Bool → List ℕ → List ℕ
blanked false bytes = bytes
blanked true bytes = take 32 bytes ++ zeros 480 ++ drop 512 bytes

-- a frame's bytes, from its block, without sums and seal, and with zeros added to 1024 bytes for a packed node frame
abbrev pub shape_bytes : Shape → List ℕ → List ℕ
shape_bytes s block = blanked s.has_sums (between s.offset (shape_end s) block) ++ zeros (1024 - s.bytes)

-- a frame of this shape is a page's: it fills its block
abbrev pub IsPageShape : Shape → Type 0
IsPageShape s = (s.sectors ≡ 9) × (s.offset ≡ 0) × (s.bytes ≡ 4608)

-- frames of this number may have this shape
pub record IsShapeFor (g : Geometry) (number : ℕ) (s : Shape) : Type 0 where
  pub inside : shape_end s ≤ 512 * s.sectors
  pub few : s.sectors ≤ 9
  pub least : 800 ≤ s.bytes
  pub node : number < g.nodes → (s.bytes ≤ 1024) × (s.sectors ≤ 8) × (s.has_sums ≡ false)
  pub page : g.nodes ≤ number → IsPageShape s

-- frames of these shapes share no byte of a block
abbrev pub AreBeside : Shape → Shape → Type 0
AreBeside s t = (shape_end s ≤ t.offset) ⊎ (shape_end t ≤ s.offset)

-- a block has only zeros from byte `at` on
abbrev pub IsBlankFrom : ℕ → List ℕ → Type 0
IsBlankFrom at bytes = drop at bytes ≡ zeros (length bytes - at)

-- the block has zeros before and after the frame
pub record HasZerosBeside (s : Shape) (bytes : List ℕ) : Type 0 where
  pub before : take s.offset bytes ≡ zeros s.offset
  pub behind : IsBlankFrom (shape_end s) bytes
