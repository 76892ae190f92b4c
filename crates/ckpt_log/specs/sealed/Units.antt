-- The units of an image on a device, and its root.
use Rattle.std.specs.Prelude.{◌≡◌, ℕ, List, [], ◌∷◌, ◌++◌, take, ⊤}
use Rattle.layout.specs.declared.bad_image.BadImage.TheVariants.{BadFrame}
use Rattle.layout.specs.declared.open_fault.OpenFault.{OpenFault}
use Rattle.layout.specs.declared.open_fault.OpenFault.TheVariants.{Bad, Failed, NoMemory}
use Rattle.seal.specs.declared.sums.Sums.{Sums}
use Rattle.layout.specs.sealed.Cluster.{IsCluster}
use Rattle.layout.specs.sealed.Page.{IsPage, page_header_numbers}
use Rattle.layout.specs.sealed.Root.{Unit, root_of}
use Rattle.layout.specs.sealed.RootLaws.{unit_of}
use Rattle.layout.specs.sealed.Sector.{AreWords}
use Rattle.layout.specs.declared.sealed.page.PageHeader.{PageHeader}
use Rattle.layout.specs.sealed.Sector.{seal_in}
use Rattle.layout.specs.sealed.Summed.{IsSummed}

-- the seal of a page is that of its header sector
abbrev pub page_seal : List ℕ → Sums
page_seal frame = seal_in (take 512 frame)

-- this header and seal were read from a page's frame
abbrev pub IsPageRead : ℕ → List ℕ → PageHeader × Sums → Type 0
IsPageRead age frame read = IsPage age frame read.0 × (read.1 ≡ page_seal frame)

-- why a page isn't read: the device failed, or the bytes are no page's frame
abbrev pub IsBadPage : ℕ → List ℕ → OpenFault → Type 0
IsBadPage age bytes Failed = ⊤
IsBadPage age bytes NoMemory = ⊥
IsBadPage age bytes (Bad reason) = (reason ≡ BadFrame) ×
    ((h : PageHeader) → AreWords (page_header_numbers h) → IsPage age bytes h → ⊥)

-- why a page's block isn't read: the device failed, or its first sector isn't sealed or has other sums
abbrev pub IsBadBlock : List ℕ → OpenFault → Type 0
IsBadBlock bytes Failed = ⊤
IsBadBlock bytes NoMemory = ⊥
IsBadBlock bytes (Bad reason) = (reason ≡ BadFrame) × (IsSummed bytes → ⊥)

-- why a cluster isn't read: the device failed, or the bytes are no cluster
abbrev pub IsBadCluster : ℕ → List ℕ → OpenFault → Type 0
IsBadCluster nodes bytes Failed = ⊤
IsBadCluster nodes bytes NoMemory = ⊥
IsBadCluster nodes bytes (Bad reason) = (reason ≡ BadFrame) × (IsCluster nodes bytes → ⊥)

-- `new` is the root of the units of `root` and one more
abbrev pub IsRootAfter : ℕ → Sums → Sums → Sums → Type 0
IsRootAfter number seal root new = (us : List Unit) → root ≡ root_of us → new ≡ root_of (us ++ unit_of number seal ∷ [])

-- `new` is the root of the units of `root` after one of them got a new seal
abbrev pub IsRootWith : ℕ → Sums → Sums → Sums → Sums → Type 0
IsRootWith number old seal root new = (before after : List Unit) →
    root ≡ root_of (before ++ unit_of number old ∷ after) → new ≡ root_of (before ++ unit_of number seal ∷ after)
