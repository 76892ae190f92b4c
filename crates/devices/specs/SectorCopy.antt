-- The bytes of all sectors, when sectors of zeros aren't stored.
use Rattle.devices.specs.Names.{ℕ, List, Option, None, Some, All, length, map, replicate, concat, item_at}
use Rattle.std.specs.Prelude.{◌≡◌, ◌<◌}

-- the bytes of a sector: zeros if none are stored
abbrev pub bytes_of : Option (List ℕ) → List ℕ
bytes_of None = replicate 512 0
bytes_of (Some bytes) = bytes

-- the bytes of all sectors, one sector after the other
unfoldable pub bytes_in : List (Option (List ℕ)) → List ℕ
bytes_in stored = concat (map bytes_of stored)

-- the 512 bytes of a sector
pub record IsSector (bytes : List ℕ) : Type 0 where
  pub size : length bytes ≡ 512
  pub fits : All (λ b. b < 256) bytes

-- each sector has 512 bytes
abbrev pub AreWhole : List (Option (List ℕ)) → Type 0
AreWhole stored = (k : ℕ) → IsSector (bytes_of (item_at stored k))
