-- The frames of objects in memory.
use Rattle.capability.specs.Names.{ℕ, List, length, Cap, Capability, ObjectHeader, Geometry, Content, untouched}
use Rattle.std.specs.Prelude.{◌<◌}
use Rattle.capability.specs.Parts.{Parts}

-- objects in memory: a header and a content for each number
pub record PlainState : Type 0 where
  pub geometry : Geometry
  pub headers : List ObjectHeader
  pub contents : List (Content Cap)

-- the parts of objects in memory: no number is touched, and no device can fail
abbrev pub parts_of : PlainState → Parts
parts_of s = record {
  geometry = s.geometry;
  headers = s.headers;
  contents = s.contents;
  touched = untouched s.geometry;
  failures = 0;
}

-- each existing number counts as fetched
abbrev pub IsThere : PlainState → ℕ → Type 0
IsThere s n = (n < length s.headers) × (n < length s.contents)

-- a capability as it is stored if nothing was ever rescinded: with count 0
abbrev pub fresh_cap : Capability → Cap
fresh_cap c = record { what = c; count = 0 }
