-- The frame of a page.
use Rattle.layout.specs.Names.{ℕ, List, [], take, drop, slice_index, IsCount, role_number, sums_of}
use Rattle.std.specs.Prelude.{◌≡◌, ◌⊎◌, ◌==◌, if◌then◌else◌, ◌∷◌, ◌++◌}
use Rattle.model.specs.declared.frame.ObjectHeader.{ObjectHeader}
use Rattle.model.specs.declared.object.Role.TheVariants as role
use Rattle.layout.specs.Bytes.{zeros}
use Rattle.layout.specs.declared.sealed.page.PageHeader.{PageHeader}
use Rattle.layout.specs.sealed.Sector.{sector_bytes}

-- the header sector as 8-byte numbers: the frame's header, and the sums of the words
abbrev pub page_header_numbers : PageHeader → List ℕ
page_header_numbers h =
    role_number h.object.role ∷ h.object.allocations ∷ h.object.calls ∷ h.object.owner
    ∷ h.words.a ∷ h.words.b ∷ h.words.c ∷ []

unfoldable pub page_header_bytes : PageHeader → List ℕ
page_header_bytes h = sector_bytes (page_header_numbers h)

-- the frame of a page: its header sector, with the sums of its words, and the words
abbrev pub page_bytes : ObjectHeader → List ℕ → List ℕ
page_bytes object words = page_header_bytes (record { object = object; words = sums_of words }) ++ words

-- the header that these numbers stand for
abbrev pub page_header_from : List ℕ → PageHeader
page_header_from ns = record {
  object = record {
    role = if slice_index ns 0 == 1 then role.Page else role.Free;
    allocations = slice_index ns 1;
    calls = slice_index ns 2;
    owner = slice_index ns 3;
  };
  words = record { a = slice_index ns 4; b = slice_index ns 5; c = slice_index ns 6 };
}

-- the header of a page, or of a free number without an owner; its counts are at most the age
pub record IsPageHeader (age : ℕ) (h : PageHeader) : Type 0 where
  pub role : (h.object.role ≡ role.Page) ⊎ ((h.object.role ≡ role.Free) × (h.object.owner ≡ 0))
  pub allocations : IsCount age h.object.allocations
  pub calls : IsCount age h.object.calls

-- the words have the sums in the header, and are zeros if the number is free
pub record HasWords (words : List ℕ) (h : PageHeader) : Type 0 where
  pub sums : h.words ≡ sums_of words
  pub free : h.object.role ≡ role.Free → words ≡ zeros 4096

-- the 4608 bytes of a page's frame: its header sector, and the words
pub record IsPage (age : ℕ) (bytes : List ℕ) (h : PageHeader) : Type 0 where
  pub header : IsPageHeader age h
  pub first : take 512 bytes ≡ page_header_bytes h
  pub words : HasWords (drop 512 bytes) h

-- the header of a number that was never used
abbrev pub never_used : PageHeader
never_used = record {
  object = record { role = role.Free; allocations = 0; calls = 0; owner = 0 };
  words = record { a = 0; b = 0; c = 0 };
}
