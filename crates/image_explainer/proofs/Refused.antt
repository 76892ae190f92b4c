-- Images that are refused because of their sectors.
use Rattle.image_explainer.proofs.Names.{nat_tests, ℕ, Some, Result, Ok, Err, ⊎_elim, refl, sym, subst, arith, cases_lt, Disk, Image, CountsNow, agrees_is}
use Rattle.image_explainer.proofs.Names.{BadImage, IsBadBy, OpenFault, CountsOpen, OnlyReads, Refuses, ReadsOnly, IsNoReason, SectorFault, IsFault, ImageFault}
use Rattle.image_explainer.proofs.Names.{Explains}
use Rattle.std.specs.Prelude.{Option}
use Rattle.layout.specs.declared.open_fault.OpenFault.TheVariants as open_fault
use Rattle.image_explainer.specs.declared.fault.ImageFault.TheVariants as fault
use Rattle.image_explainer.proofs.Reasons.{explained_sectors}

-- if a device was refused for a reason, the reason still holds of its image
pub bad_still : {D : Type 0} (disk : D → Disk) (before mid : D) (reason : BadImage) → Refuses disk before mid (open_fault.Bad reason) →
    IsBadBy (disk mid).seen (disk mid).sectors reason
bad_still disk before mid reason refuses =
    subst (λ (n : ℕ). IsBadBy (disk mid).seen n reason) (sym refuses.only_reads.size)
    (subst (λ (c : Image). IsBadBy c (disk before).sectors reason) (sym (agrees_is (disk mid).seen (disk before).seen
    refuses.only_reads.seen)) refuses.why.1)

-- the parameters: a device that was refused, and that was only read afterwards
module _ {D : Type 0} (disk : D → Disk) (before mid back : D) (reason : BadImage)
    (refuses : Refuses disk before mid (open_fault.Bad reason))
    (reads : ReadsOnly (disk mid) (disk back)) (now : CountsNow (disk mid)) where
  looked : OnlyReads (disk before) (disk back)
  looked = grind (arith, nat_tests)

  pub sectors_found : (f : SectorFault) → IsFault (disk mid).sectors (disk mid).seen f →
      (let r : Result SectorFault OpenFault = Ok f in CountsOpen (disk mid) (disk back) r)
      → (let r : Result (Option ImageFault) OpenFault = Ok (Some (fault.Sectors f)) in Explains disk before back r)
  sectors_found f is counts =
      let there : IsFault (disk before).sectors (disk before).seen f =
      subst (λ (n : ℕ). IsFault n (disk before).seen f) refuses.only_reads.size
      (subst (λ (c : Image). IsFault (disk mid).sectors c f) (agrees_is (disk mid).seen (disk before).seen refuses.only_reads.seen) is) in (
        explained_sectors (disk before).sectors (disk before).seen f there,
        looked,
        ⊎_elim (λ rose. let never = counts.cause.1 rose in cc) (λ le. omega (arith, le, counts.never_falls, refuses.why.0))
            (cases_lt (disk mid).failures (disk back).failures),
      )

  pub sectors_failed : (why : OpenFault) → IsNoReason why → (let r : Result SectorFault OpenFault = Err why in
      CountsOpen (disk mid) (disk back) r) → (let r : Result (Option ImageFault) OpenFault = Err why in Explains disk before back r)
  sectors_failed open_fault.Failed other counts = (
    record {
      is_why = omega (arith, counts.cause.0 refl, refuses.why.0);
      only_reads = looked;
    },
    tt,
  )
  sectors_failed open_fault.NoMemory other counts = grind (arith, nat_tests)
  sectors_failed (open_fault.Bad reason) other counts = absurd other
