-- The faults that are found are reasons to refuse an image.
use Rattle.image_explainer.proofs.Names.{arith, ℕ, List, Option, None, Some, Ok, Err, inl, inr, ⊎_elim, refl, sym, ap, subst, nat_tests, Frame, AreKeepable}
use Rattle.image_explainer.proofs.Names.{Disk, Image, BadImage, OpenFault, OnlyReads, Holds, SavedFrames, IsInconsistent, frames_of, consistent_is_sound}
use Rattle.image_explainer.proofs.Names.{OpensStore, View, Parts, saved_of, holds_one, frames_not_bad, SectorFault, IsFault, ImageFault, BreaksFrames}
use Rattle.image_explainer.proofs.Names.{reason_of, Explains, IsExplainedBy, IsConsistentOr, AreBadForOneReason, IsMisnamed, IsUnmatched, Misnamed, Unmatched}
use Rattle.image_explainer.proofs.Names.{AreNamed, Geometry, keepable_later, unbanked_refuted, CheckpointHeader}
use Rattle.std.proofs.Common.{◌≡◌, ◌≤◌, ◌^◌, ◌-◌, ◌∙◌}
use Rattle.std.specs.Prelude.{Result}
use Rattle.image_explainer.proofs.OneReason.{one_reason as one_sector_reason}
use Rattle.image_explainer.specs.declared.fault.ImageFault.TheVariants as fault
use Rattle.layout.specs.declared.bad_image.BadImage.TheVariants as bad
use Rattle.layout.specs.declared.open_fault.OpenFault.TheVariants as opening

misnamed_bad : (fs : List Frame) (m : Misnamed) → IsMisnamed fs m → IsInconsistent fs bad.BadCapability
misnamed_bad fs m is = grind (arith, nat_tests)

unmatched_bad : (fs : List Frame) (u : Unmatched) → AreNamed fs → IsUnmatched fs u → IsInconsistent fs bad.BadProcess
unmatched_bad fs u named is = grind (arith, nat_tests)

-- if frames have a fault, they are inconsistent for the fault's reason
inconsistent : (fs : List Frame) (f : ImageFault) → BreaksFrames fs f → IsInconsistent fs (reason_of f)
inconsistent fs (fault.Sectors f) is = absurd is
inconsistent fs (fault.Capability m) is = misnamed_bad fs m is.misnamed
inconsistent fs (fault.Process u) is = unmatched_bad fs u is.0 is.1
inconsistent fs (fault.Bank u) is = (is.0, is.1, unbanked_refuted fs u is.2)

explained_frames : (size : ℕ) (c : Image) (saved : SavedFrames) (f : ImageFault) → Holds size c saved → BreaksFrames saved.frames f →
    IsExplainedBy size c (Some f)
explained_frames size c saved (fault.Sectors f) holds is = absurd is
explained_frames size c saved (fault.Capability m) holds is = (
  inr (saved, holds, inconsistent saved.frames (fault.Capability m) is),
  (saved, holds, is),
)
explained_frames size c saved (fault.Process u) holds is = (
  inr (saved, holds, inconsistent saved.frames (fault.Process u) is),
  (saved, holds, is),
)
explained_frames size c saved (fault.Bank u) holds is = (
  inr (saved, holds, inconsistent saved.frames (fault.Bank u) is),
  (saved, holds, is),
)

-- a fault of the sectors explains why the image is bad
pub explained_sectors : (size : ℕ) (c : Image) (f : SectorFault) → IsFault size c f → IsExplainedBy size c (Some (fault.Sectors f))
explained_sectors size c f is = (inl is.0, is.1)

-- frames that a device holds have encodings at their age
pub keepable : (size : ℕ) (c : Image) (saved : SavedFrames) → Holds size c saved → AreKeepable saved.geometry saved.age saved.frames
keepable size c saved holds = grind (arith, nat_tests)

pub within_age : (size : ℕ) (c : Image) (saved : SavedFrames) → Holds size c saved → saved.age ≤ 2 ^ 62
within_age size c saved holds = subst (λ (x : SavedFrames). x.age ≤ 2 ^ 62) holds.2
    (subst (λ (h : CheckpointHeader). h.age ≤ 2 ^ 62) holds.1.same holds.1.header.fits.age)

-- what was found in saved frames explains the image that holds them
explained_found : (size : ℕ) (c : Image) (saved : SavedFrames) (found : Option ImageFault) → Holds size c saved →
    IsConsistentOr saved.frames found → IsExplainedBy size c found
explained_found size c saved None holds is = (
  saved.geometry,
  saved_of saved,
  record {
    frames = saved;
    holds = holds;
    sound = record {
      geometry = refl;
      sound = consistent_is_sound saved.geometry saved.age saved.frames (keepable size c saved holds)
          (within_age size c saved holds) is.0 is.1 is.2;
    };
    stands = refl;
  },
)
explained_found size c saved (Some f) holds is = explained_frames size c saved f holds is

-- the objects of a store that was opened have encodings at any age
pub opened_keepable : {D : Type 0} (disk : D → Disk) (device : D) (parts : Parts) (view : View D) → OpensStore disk device parts view →
    parts.geometry ≡ view.snapshots.saved.geometry → AreKeepable parts.geometry (2 ^ 64 - 1) (frames_of parts)
opened_keepable disk device parts view opens geometry =
    let saved = view.snapshots.saved in
    let size = (disk device).sectors in
    let c = (disk device).seen in
    subst (λ (fs : List Frame). AreKeepable parts.geometry (2 ^ 64 - 1) fs) (sym opens.frames)
    (subst (λ (g : Geometry). AreKeepable g (2 ^ 64 - 1) saved.frames) (sym geometry)
    (keepable_later saved.geometry saved.age (2 ^ 64 - 1) saved.frames (omega (arith, within_age size c saved opens.holds))
    (keepable size c saved opens.holds)))

-- the parameters: a store that was opened on a device, and the device after it was read
module _ {D : Type 0} (disk : D → Disk) (device back : D) (parts : Parts) (view : View D) (opens : OpensStore disk device parts view)
    (same : back ≡ view.beneath) where
  looked : OnlyReads (disk device) (disk back)
  looked = subst (λ (d : D). OnlyReads (disk device) (disk d)) (sym same) opens.only_reads

  unfailed : (disk back).failures ≡ (disk device).failures
  unfailed = ap (λ (d : D). (disk d).failures) same ∙ opens.failures

  pub explains_found : (found : Option ImageFault) → IsConsistentOr (frames_of parts) found →
      (let r : Result (Option ImageFault) OpenFault = Ok found in Explains disk device back r)
  explains_found found is =
      let saved = view.snapshots.saved in (
        explained_found (disk device).sectors (disk device).seen saved found opens.holds
            (subst (λ (fs : List Frame). IsConsistentOr fs found) opens.frames is),
        looked,
        unfailed,
      )

  -- if the fault is neither a failure nor a reason, memory ran out, and nothing is claimed
  pub explains_refused : (why : OpenFault) → (why ≡ opening.Failed → ⊥) → ((reason : BadImage) → why ≡ opening.Bad reason → ⊥) →
      (let r : Result (Option ImageFault) OpenFault = Err why in Explains disk device back r)
  explains_refused opening.Failed other good = absurd (other refl)
  explains_refused opening.NoMemory other good = (record { is_why = unfailed; only_reads = looked }, tt)
  explains_refused (opening.Bad reason) other good = absurd (good reason refl)

-- frames are inconsistent for at most one reason
one_inconsistency : (fs : List Frame) (a b : BadImage) → IsInconsistent fs a → IsInconsistent fs b → a ≡ b
one_inconsistency fs a b x y = grind (arith, nat_tests)

-- at most one reason applies to an image
pub one_reason : AreBadForOneReason
one_reason size c a b x y = ⊎_elim
    (λ first. ⊎_elim
    (λ second. one_sector_reason size c a b first second)
    (λ second. absurd (frames_not_bad c size second.1.0 second.1.1 a first))
    y)
    (λ first. ⊎_elim
    (λ second. absurd (frames_not_bad c size first.1.0 first.1.1 b second))
    (λ second. one_inconsistency second.0.frames a b
    (subst (λ (s : SavedFrames). IsInconsistent s.frames a) (holds_one size c first.0 second.0 first.1 second.1) first.2) second.2)
    y)
    x
