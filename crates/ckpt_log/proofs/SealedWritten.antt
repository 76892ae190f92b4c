-- Units that were written to a device, and the root.
use Rattle.std.proofs.Common.{◌≡◌, ℕ, ◌-◌, List, [], ◌∷◌, ◌++◌, length, take, drop, take-append-drop, ap, refl, sym, subst, ◌∙◌, arith}
use Rattle.std.proofs.lemmas.List.{append-nil, length-take-le, take-take}
use Rattle.device.specs.Disk.{Image}
use Rattle.layout.specs.Image.{sectors_from}
use Rattle.layout.specs.declared.bad_image.BadImage.TheVariants.{BadFrame}
use Rattle.layout.specs.declared.open_fault.OpenFault.TheVariants.{Bad}
use Rattle.model.specs.declared.frame.ObjectHeader.{ObjectHeader}
use Rattle.seal.specs.Sums.{sums_of}
use Rattle.seal.specs.declared.sums.Sums.{Sums}
use Rattle.layout.proofs.Roots.{no_order}
use Rattle.layout.specs.sealed.Cluster.{IsCluster}
use Rattle.layout.specs.sealed.Page.{IsPage, page_header_bytes, page_header_numbers}
use Rattle.layout.specs.sealed.Root.{Unit, root_of}
use Rattle.layout.specs.sealed.RootLaws.{unit_of}
use Rattle.layout.specs.sealed.Sector.{AreWords}
use Rattle.layout.specs.declared.sealed.page.PageHeader.{PageHeader}
use Rattle.layout.specs.sealed.Summed.{IsSummed}
use Rattle.ckpt_log.specs.sealed.Units.{IsBadBlock, IsBadCluster, IsBadPage, IsRootAfter, IsRootWith}
use Rattle.layout.specs.sealed.Page.{page_bytes}

-- ---- pages and clusters

pub front_body : (frame : List ℕ) → length frame ≡ 4608 → take 488 frame ≡ take (length (take 512 frame) - 24) (take 512 frame)
front_body frame size =
    let n : length (take 512 frame) - 24 ≡ 488 = omega (arith, length-take-le 512 frame (omega (arith, size))) in
    sym (take-take 488 512 frame (omega arith)) ∙ ap (λ (m : ℕ). take m (take 512 frame)) (sym n)

pub cluster_body : (cluster : List ℕ) → length cluster ≡ 4096 → take 4072 cluster ≡ take (length cluster - 24) cluster
cluster_body cluster size = let n : 4072 ≡ length cluster - 24 = omega (arith, size) in ap (λ (m : ℕ). take m cluster) n

pub page_is : (object : ObjectHeader) (old new : List ℕ) →
    take 512 new ≡ page_header_bytes (record { object = object; words = sums_of (drop 512 old) }) → drop 512 new ≡ drop 512 old →
    new ≡ page_bytes object (drop 512 old)
page_is object old new header words =
    sym (take-append-drop 512 new) ∙ ap (λ (t : List ℕ). t ++ drop 512 new) header
    ∙ ap (λ (t : List ℕ). page_header_bytes (record { object = object; words = sums_of (drop 512 old) }) ++ t) words

pub page_written : (image : Image) (at : ℕ) (object : ObjectHeader) (old new : List ℕ) → sectors_from image at 9 ≡ new →
    take 512 new ≡ page_header_bytes (record { object = object; words = sums_of (drop 512 old) }) → drop 512 new ≡ drop 512 old →
    sectors_from image at 9 ≡ page_bytes object (drop 512 old)
page_written image at object old new written header words = written ∙ page_is object old new header words

pub page_refused : (age : ℕ) (bytes frame : List ℕ) → bytes ≡ frame →
    ((h : PageHeader) → AreWords (page_header_numbers h) → IsPage age frame h → ⊥) → IsBadPage age bytes (Bad BadFrame)
page_refused age bytes frame is none = (refl, λ h fits page. none h fits (subst (λ (b : List ℕ). IsPage age b h) is page))

pub block_refused : (bytes block : List ℕ) → bytes ≡ block → (IsSummed block → ⊥) → IsBadBlock bytes (Bad BadFrame)
block_refused bytes block is none = (refl, λ here. none (subst IsSummed is here))

pub cluster_refused : (nodes : ℕ) (bytes cluster : List ℕ) → bytes ≡ cluster → (IsCluster nodes cluster → ⊥) →
    IsBadCluster nodes bytes (Bad BadFrame)
cluster_refused nodes bytes cluster is none = (refl, λ here. none (subst (λ (b : List ℕ). IsCluster nodes b) is here))

-- ---- the root

pub root_none : (record { a = 0; b = 0; c = 0 }) ≡ root_of []
unfolding root_of
root_none = refl

pub root_after : (number : ℕ) (seal root new : Sums) →
    ((us : List Unit) → root ≡ root_of us → new ≡ root_of (unit_of number seal ∷ us)) → IsRootAfter number seal root new
root_after number seal root new add us was =
    add us was ∙ ap (λ (vs : List Unit). root_of (unit_of number seal ∷ vs)) (sym (append-nil us))
    ∙ sym (no_order us [] (unit_of number seal))

pub root_with : (number : ℕ) (old seal root mid new : Sums) →
    ((us : List Unit) → root ≡ root_of (unit_of number old ∷ us) → mid ≡ root_of us) →
    ((us : List Unit) → mid ≡ root_of us → new ≡ root_of (unit_of number seal ∷ us)) → IsRootWith number old seal root new
root_with number old seal root mid new less more before after was =
    more (before ++ after) (less (before ++ after) (was ∙ no_order before after (unit_of number old)))
    ∙ sym (no_order before after (unit_of number seal))
