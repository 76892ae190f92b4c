-- The sums of a page's frame in its block.
use Rattle.layout.specs.Names.{ℕ, Bool, List, ObjectHeader, Sums, take, drop, sums_of, ⊤}
use Rattle.std.specs.Prelude.{◌≡◌, true, false}
use Rattle.layout.specs.declared.sealed.page.PageHeader.{PageHeader}
use Rattle.layout.specs.declared.shape.Shape.{Shape}
use Rattle.layout.specs.sealed.Page.{page_header_bytes}

-- a page's block: its first sector is sealed, and has the sums of the words
pub record IsSummed (bytes : List ℕ) : Type 0 where
  pub header : PageHeader
  pub first : take 512 bytes ≡ page_header_bytes header
  pub words : header.words ≡ sums_of (drop 512 bytes)

-- these bytes are a sealed header sector, which says that the words have these sums
abbrev pub HasSums : List ℕ → Sums → Type 0
HasSums bytes words = (object : ObjectHeader) × (bytes ≡ page_header_bytes (record { object = object; words = words }))

-- the block is summed, if this is true
abbrev pub IsSummedIf : Bool → List ℕ → Type 0
IsSummedIf false bytes = ⊤
IsSummedIf true bytes = IsSummed bytes

-- the block of a frame of this shape is summed, if such frames have sums
abbrev pub IfSummed : Shape → List ℕ → Type 0
IfSummed s bytes = IsSummedIf s.has_sums bytes
