-- Bytes encode at most one value, and damage shows.
use Rattle.std.specs.Prelude.{◌≡◌, ℕ, ◌≤◌, List, length, true}
use Rattle.layout.specs.Bytes.{zeros}
use Rattle.layout.specs.Directory.{AllFitting}
use Rattle.layout.specs.declared.directory.Entry.{Entry}
use Rattle.seal.specs.Damage.{DifferInBurst, IsRow}
use Rattle.layout.specs.declared.sealed.header.SealedHeader.{SealedHeader}
use Rattle.layout.specs.declared.sealed.page.PageHeader.{PageHeader}
use Rattle.layout.specs.Superblock.{Plan, superblock_bytes}
use Rattle.layout.specs.Version.{row}
use Rattle.layout.specs.sealed.Cluster.{IsCluster}
use Rattle.layout.specs.sealed.Directory.{entries_bytes}
use Rattle.layout.specs.sealed.Header.{sealed_header_bytes, header_numbers}
use Rattle.layout.specs.sealed.Page.{IsPage, IsPageHeader, never_used, page_header_bytes, page_header_numbers}
use Rattle.layout.specs.sealed.Sector.{AreWords, sector_bytes}

abbrev pub SpellOneSealedHeader : Type 0
SpellOneSealedHeader = (g h : SealedHeader) → AreWords (header_numbers g) → AreWords (header_numbers h) →
    sealed_header_bytes g ≡ sealed_header_bytes h → g ≡ h

abbrev pub SpellOnePageHeader : Type 0
SpellOnePageHeader = (age : ℕ) (g h : PageHeader) → IsPageHeader age g → IsPageHeader age h →
    AreWords (page_header_numbers g) → AreWords (page_header_numbers h) →
    page_header_bytes g ≡ page_header_bytes h → g ≡ h

abbrev pub SpellOneSector : Type 0
SpellOneSector = (ds es : List Entry) → length ds ≡ length es → length es ≤ 30 → AllFitting ds → AllFitting es →
    entries_bytes ds ≡ entries_bytes es → ds ≡ es

-- if two rows differ in a burst, at most one of them is a sealed sector: header, directory or page header
abbrev pub SectorsShowBursts : Type 0
SectorsShowBursts = (i : ℕ) (x y ms ns : List ℕ) → IsRow x → IsRow y → DifferInBurst i x y →
    x ≡ sector_bytes ms → y ≡ sector_bytes ns → x ≡ y

-- if two rows differ in a burst, at most one of them is a sealed superblock
abbrev pub SuperblocksShowBursts : Type 0
SuperblocksShowBursts = (i : ℕ) (x y : List ℕ) (p q : Plan) → IsRow x → IsRow y → DifferInBurst i x y →
    (row p.version).sealed ≡ true → (row q.version).sealed ≡ true →
    x ≡ superblock_bytes p → y ≡ superblock_bytes q → x ≡ y

-- if two rows differ in a burst, at most one of them is a sealed cluster
abbrev pub ClustersShowBursts : Type 0
ClustersShowBursts = (i : ℕ) (x y : List ℕ) (m n : ℕ) → IsRow x → IsRow y → DifferInBurst i x y →
    IsCluster m x → IsCluster n y → x ≡ y

-- zeros are the frames of numbers that were never used, so unused frames may be holes of the file
abbrev pub ZerosAreFree : Type 0
ZerosAreFree = (age : ℕ) → IsPage age (zeros 4608) never_used × ((nodes : ℕ) → IsCluster nodes (zeros 4096))
