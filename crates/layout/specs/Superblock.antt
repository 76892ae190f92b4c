-- The superblock: how many objects a device holds, and where its parts lie.
use Rattle.layout.specs.Names.{ℕ, nat_lt, Bool, List, [], length, map, take, drop, replicate, slice_index_or, codes, All}
use Rattle.layout.specs.Names.{flat_map, Geometry}
use Rattle.std.specs.Prelude.{◌≡◌, ◌⊎◌, ◌+◌, ◌-◌, ◌*◌, ◌/◌, ◌%◌, ◌<◌, ◌≤◌, ◌^◌, if◌then◌else◌, ◌∷◌, ◌++◌, true, false}
use Rattle.layout.specs.declared.bad_image.BadImage.{BadImage}
use Rattle.layout.specs.declared.bad_image.BadImage.TheVariants.{NotASuperblock, BadGeometry}
use Rattle.layout.specs.declared.extent.Extent.{Extent}
use Rattle.layout.specs.declared.extent.HomeRange.{HomeRange}
use Rattle.layout.specs.declared.half.Half.{Half}
use Rattle.layout.specs.declared.half.Half.TheVariants.{First, Second}
use Rattle.layout.specs.declared.version.Version.{Version}
use Rattle.layout.specs.Bytes.{number, half_number, zeros}
use Rattle.layout.specs.Version.{aligned, directory_length, row}
use Rattle.layout.specs.sealed.Sector.{with_seal}
use Rattle.seal.specs.Seal.{IsSealed}

-- the number of a version in a superblock
abbrev pub version_number : Version → ℕ
version_number v = (row v).number

-- the fields of a superblock
pub record Plan : Type 0 where
  pub version : Version
  pub geometry : Geometry
  pub ranges : List HomeRange
  pub half_0 : ℕ
  pub half_1 : ℕ
  pub total : ℕ

-- the 24 bytes of a home range
abbrev pub range_bytes : HomeRange → List ℕ
range_bytes r = number r.first ++ number r.count ++ number r.sector

unfoldable pub ranges_bytes : List HomeRange → List ℕ
ranges_bytes rs = flat_map range_bytes rs

abbrev pub unused : HomeRange
unused = record { first = 0; count = 0; sector = 0 }

-- the first 256 bytes of a superblock: eight ranges, the unused ones last
unfoldable pub superblock_front : Plan → List ℕ
superblock_front p =
    codes "EROSCKPT" ++ half_number (version_number p.version) ++ half_number (length p.ranges)
    ++ number p.geometry.nodes ++ number p.geometry.pages ++ number p.geometry.log
    ++ number p.half_0 ++ number p.half_1 ++ number p.total
    ++ ranges_bytes (p.ranges ++ replicate (8 - length p.ranges) unused)

-- a sector with this front, then zeros, and a seal if it is sealed
abbrev pub sector_with : Bool → List ℕ → List ℕ
sector_with true front = with_seal (front ++ zeros 232)
sector_with false front = front ++ zeros 256

-- the sector of a superblock
unfoldable pub superblock_bytes : Plan → List ℕ
superblock_bytes p = sector_with (row p.version).sealed (superblock_front p)

-- the bytes from 256 on are zeros, apart from the seal if the sector is sealed
abbrev pub HasEnd : Bool → List ℕ → Type 0
HasEnd true bytes = (take 232 (drop 256 bytes) ≡ zeros 232) × IsSealed bytes
HasEnd false bytes = drop 256 bytes ≡ zeros 256

-- magic, version and the bytes from 256 on are those of a superblock
pub record HasMark (bytes : List ℕ) : Type 0 where
  pub magic : take 8 bytes ≡ codes "EROSCKPT"
  pub version : (v : Version) × (take 4 (drop 8 bytes) ≡ half_number (version_number v))
  pub blank : HasEnd (row version.0).sealed bytes

-- the limits of the numbers of nodes, pages and log slots
pub record IsGeometry (g : Geometry) : Type 0 where
  pub least_nodes : 16 ≤ g.nodes
  pub most_nodes : g.nodes ≤ 4096
  pub least_pages : 1 ≤ g.pages
  pub most_pages : g.pages ≤ 4096
  pub least_log : 16 ≤ g.log
  pub most_log : g.log ≤ 4096

-- a range has only nodes or only pages
abbrev pub IsOfOneKind : Geometry → HomeRange → Type 0
IsOfOneKind g r = (r.first + r.count ≤ g.nodes) ⊎ (g.nodes ≤ r.first)

-- the range begins at number n, isn't empty, and has only nodes or only pages
abbrev pub IsNext : Geometry → HomeRange → ℕ → Type 0
IsNext g r n = (r.first ≡ n) × (0 < r.count) × IsOfOneKind g r

-- these ranges cover the numbers from n to the last, in order and without a gap
abbrev pub Cover : Geometry → ℕ → List HomeRange → Type 0
Cover g n [] = n ≡ g.nodes + g.pages
Cover g n (r ∷ rs) = IsNext g r n × Cover g (n + r.count) rs

-- how many sectors the clusters of this number of nodes take
abbrev pub nodes_length : Version → ℕ → ℕ
nodes_length v count = (row v).cluster_sectors * ((count + (row v).cluster_nodes - 1) / (row v).cluster_nodes)

-- the sectors of a range, 9 for a page, and those of a log half
abbrev pub range_extent : Version → Geometry → HomeRange → Extent
range_extent v g r = record {
  sector = r.sector;
  length = if nat_lt r.first g.nodes then nodes_length v r.count else 9 *
      r.count;
}

-- how many sectors a log half takes: its slots, and its directory
unfoldable pub half_length : Version → Geometry → ℕ
half_length v g = aligned v (9 * g.log + directory_length v g.log)

abbrev pub half_extent : Version → Geometry → ℕ → Extent
half_extent v g sector = record { sector = sector; length = half_length v g }

abbrev pub extents : Plan → List Extent
extents p = map (range_extent p.version p.geometry) p.ranges
    ++ half_extent p.version p.geometry p.half_0 ∷ half_extent p.version p.geometry p.half_1 ∷ []

-- the extent lies from sector 5 on, after the headers of versions 1 and 2, and before the end
abbrev pub IsWithin : ℕ → Extent → Type 0
IsWithin total e = (5 ≤ e.sector) × (e.sector + e.length ≤ total)

-- a range or half may begin at this sector: after the headers of its version, at a multiple of its alignment
abbrev pub MayBegin : Version → Extent → Type 0
MayBegin v e = ((row v).first_home ≤ e.sector) × (e.sector % (row v).alignment ≡ 0)

-- no sector is in both extents
abbrev pub IsApart : Extent → Extent → Type 0
IsApart d e = (d.sector + d.length ≤ e.sector) ⊎ (e.sector + e.length ≤ d.sector)

-- each sector of `inner` is in `outer`
pub record IsInside (inner outer : Extent) : Type 0 where
  pub starts : outer.sector ≤ inner.sector
  pub ends : inner.sector + inner.length ≤ outer.sector + outer.length

abbrev pub extent_at : List Extent → ℕ → Extent
extent_at es i = slice_index_or es i (record { sector = 0; length = 0 })

abbrev pub AreApart : List Extent → Type 0
AreApart es = (i j : ℕ) → i < j → j < length es → IsApart (extent_at es i) (extent_at es j)

-- a valid superblock
pub record IsPlan (p : Plan) : Type 0 where
  pub geometry : IsGeometry p.geometry
  pub some : 1 ≤ length p.ranges
  pub few : length p.ranges ≤ 8
  pub total : p.total ≤ 131072
  pub cover : Cover p.geometry 0 p.ranges
  pub within : All (IsWithin p.total) (extents p)
  pub begin : All (MayBegin p.version) (extents p)
  pub apart : AreApart (extents p)

-- why a sector is refused as a superblock: its magic or version, or anything else
abbrev pub IsPlanRefused : List ℕ → BadImage → Type 0
IsPlanRefused bytes NotASuperblock = HasMark bytes → ⊥
IsPlanRefused bytes BadGeometry = HasMark bytes × ((p : Plan) → IsPlan p → bytes ≡ superblock_bytes p → ⊥)
IsPlanRefused bytes _ = ⊥

-- the numbers of a range fit their bytes
abbrev pub RangeFits : HomeRange → Type 0
RangeFits r = (r.first < 2 ^ 64) × (r.count < 2 ^ 64) × (r.sector < 2 ^ 64)

abbrev pub plan_of : Version → Geometry → List HomeRange → ℕ → ℕ → ℕ → Plan
plan_of v g rs half_0 half_1 total =
    record { version = v; geometry = g; ranges = rs; half_0 = half_0; half_1 = half_1; total = total }

-- the first sector of a half of the log
abbrev pub half_start : Plan → Half → ℕ
half_start p First = p.half_0
half_start p Second = p.half_1
