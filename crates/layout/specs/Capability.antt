-- Capabilities as bytes.
use Rattle.layout.specs.Names.{ℕ, List, [], Access, Cap, Capability, Void, Number, Page, Node, Space, Process, Start}
use Rattle.layout.specs.Names.{Resume, Bank, Discrim, named, tag_of, access_bits, unwrap_or}
use Rattle.std.specs.Prelude.{◌+◌, ◌*◌, ◌<◌, ◌==◌, if◌then◌else◌, ◌∷◌, ◌++◌}
use Rattle.layout.specs.Bytes.{number, short_number}

-- the key, the height and the number of a capability; 0 if it has none
abbrev pub key_of : Capability → ℕ
key_of (Start p key) = key
key_of _ = 0

abbrev pub height_of : Capability → ℕ
height_of (Space o h a) = h
height_of _ = 0

abbrev pub number_of : Capability → ℕ
number_of (Number n) = n
number_of c = unwrap_or (named c) 0

-- tag, access, two bytes of key, height, and three zeros
unfoldable pub head_bytes : Capability → List ℕ
head_bytes k = (tag_of k ∷ access_bits k ∷ []) ++ short_number (key_of k) ++ height_of k ∷ 0 ∷ 0 ∷ 0 ∷ []

-- the 24 bytes of a capability
unfoldable pub capability_bytes : Cap → List ℕ
capability_bytes c = head_bytes c.what ++ number (number_of c.what) ++ number c.count

-- the first eight bytes of a capability as one number
abbrev pub head_number : Capability → ℕ
head_number k = tag_of k + 256 * access_bits k + 65536 * key_of k + 4294967296 * height_of k

-- access, key and height fit their bytes
pub record HeadFits (k : Capability) : Type 0 where
  pub access : access_bits k < 256
  pub key : key_of k < 65536
  pub height : height_of k < 256

-- the capability with this tag, made of those fields that its kind has
abbrev pub assembled : ℕ → Access → ℕ → ℕ → ℕ → Capability
assembled tag access key height n =
    if tag == 0 then Void else
    if tag == 1 then Number n else
    if tag == 2 then Page n access else
    if tag == 3 then Node n access else
    if tag == 4 then Space n height access else
    if tag == 5 then Process n else
    if tag == 6 then Start n key else
    if tag == 7 then Resume n else
    if tag == 8 then Bank n else Discrim
