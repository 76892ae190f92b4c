-- The sealed header of a checkpoint.
use Rattle.std.specs.Prelude.{ℕ, List, [], ◌∷◌, codes, slice_index}
use Rattle.byteorder.specs.Endian.{little_number}
use Rattle.layout.specs.declared.sealed.header.SealedHeader.{SealedHeader}
use Rattle.layout.specs.sealed.Sector.{sector_bytes}

-- a header as 8-byte numbers; the first is the magic
abbrev pub header_numbers : SealedHeader → List ℕ
header_numbers h =
    little_number 8 (codes "EROSHEAD") ∷ h.header.sequence ∷ h.header.generation ∷ h.header.entries ∷ h.header.age
    ∷ h.root.a ∷ h.root.b ∷ h.root.c ∷ h.directory.a ∷ h.directory.b ∷ h.directory.c ∷ []

-- the sector of a header
unfoldable pub sealed_header_bytes : SealedHeader → List ℕ
sealed_header_bytes h = sector_bytes (header_numbers h)

-- the header that these numbers decode to; the first number is ignored
abbrev pub sealed_header_from : List ℕ → SealedHeader
sealed_header_from ns = record {
  header = record {
    sequence = slice_index ns 1;
    generation = slice_index ns 2;
    entries = slice_index ns 3;
    age = slice_index ns 4;
  };
  root = record { a = slice_index ns 5; b = slice_index ns 6; c = slice_index ns 7 };
  directory = record { a = slice_index ns 8; b = slice_index ns 9; c = slice_index ns 10 };
}
