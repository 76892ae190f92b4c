-- What `upgrade` writes, and why it refuses.
use Rattle.image_builder.specs.Names.{ℕ, List, [], Disk, Image, Elsewhere, LeavesOnly, Entry, Plan, Version, Encodes}
use Rattle.image_builder.specs.Names.{SavedState, OnlyReads, Holds, SavedFrames, kept_of, frames_of, Parts}
use Rattle.image_builder.specs.Names.{DurableState, saved_by, laid_again, IsLeftWriting, IsSoundSaved, OpenFault}
use Rattle.image_builder.specs.Names.{RefusesToOpen, Result, IfErr, IfOk, IsErrOf, OnOk, EndInZeros, Two, row}
use Rattle.std.specs.Prelude.{◌≡◌, ◌≢◌, ◌⊎◌, ◌↔◌, ◌+◌, ◌<◌, ◌≤◌, ◌∷◌}
use Rattle.layout.specs.declared.open_fault.OpenFault.TheVariants as opening
use Rattle.image_builder.specs.declared.new_layout.NewLayout.{NewLayout}
use Rattle.image_builder.specs.declared.new_layout.NewLayout.TheVariants as layout
use Rattle.image_builder.specs.declared.upgrade_fault.UpgradeFault.{UpgradeFault}
use Rattle.image_builder.specs.declared.upgrade_fault.UpgradeFault.TheVariants as fault

-- directory entries for the same objects in the same order, with slots `at`, `at` + 1, ..
unfoldable pub numbered : ℕ → List Entry → List Entry
numbered at [] = []
numbered at (e ∷ es) = record { object = e.object; slot = at } ∷ numbered (at + 1) es

-- the version of the new image, from the plan of the old one
abbrev pub version_in : NewLayout → Plan → Version
version_in layout.Newest p = Two
version_in layout.Kept p = p.version

-- where the parts of the new image lie: the old ranges in their order, after the headers
abbrev pub new_plan : NewLayout → Plan → Plan
new_plan l p = laid_again (version_in l p) p

-- the saved state in the new layout: at new places, with log slots in order and the version's first sequence number
abbrev pub upgraded : NewLayout → SavedState → SavedState
upgraded l s = record {
  plan = new_plan l s.plan;
  header = record s.header { sequence = (row (version_in l s.plan)).first_sequence };
  directory = numbered 0 s.directory;
  frames = s.frames;
}

-- the old device's saved state, which stands for a sound world, was written to a new device in the new layout. Zeros
-- follow the frames of each cluster, and then its seal in a version with seals. A crash leaves the same
pub record Upgrades (l : NewLayout) (old before new : Disk) : Type 0 where
  pub state : SavedState
  pub was : Encodes old.seen old.sectors state
  pub sound : IsSoundSaved state.plan.geometry (kept_of state)
  pub encodes : Encodes new.seen new.sectors (upgraded l state)
  pub crash : (c : Image) → new.may_leave c → Encodes c new.sectors (upgraded l state)
  pub zeros : (c : Image) → new.may_leave c →
      EndInZeros (new_plan l state.plan) state.header.generation (numbered 0 state.directory) c
  pub elsewhere : Elsewhere 0 (new_plan l state.plan).total before.seen new.seen

-- the saved state was written to a new device; or the result's fault says why not
pub record WritesUpgraded {E : Type 0} (l : NewLayout) (disk : E → Disk) (s : SavedState) (old new : E)
    (result : Result ℕ UpgradeFault) : Type 0 where
  pub total : IfOk result (λ total. total ≡ (new_plan l s.plan).total)
  pub encodes : OnOk result (Encodes (disk new).seen (disk new).sectors (upgraded l s))
  pub crash : OnOk result ((c : Image) → (disk new).may_leave c → Encodes c (disk new).sectors (upgraded l s))
  pub zeros : OnOk result ((c : Image) → (disk new).may_leave c →
      EndInZeros (new_plan l s.plan) s.header.generation (numbered 0 s.directory) c)
  pub elsewhere : OnOk result (Elsewhere 0 (new_plan l s.plan).total (disk old).seen (disk new).seen)
  pub small : IsErrOf result fault.Small → (disk old).sectors < (new_plan l s.plan).total
  pub opened : IfErr result (λ why. (of_old : OpenFault) → why ≢ fault.Old of_old)
  pub untouched : IfErr result (λ why. why ≢ fault.Failed → new ≡ old)
  pub any_moment : LeavesOnly (disk old) (disk new) (λ c. IsLeftWriting (disk old) (kept_of s) c)
  pub size : (disk new).sectors ≡ (disk old).sectors
  pub later : (disk old).failures ≤ (disk new).failures
  pub cause : IsErrOf result fault.Failed ↔ ((disk old).failures < (disk new).failures)

-- why the old device can't be opened: a kernel would refuse it for the same reason
abbrev pub IsNotOpened : {D : Type 0} → (D → Disk) → D → OpenFault → Type 0
IsNotOpened disk old opening.NoMemory = ⊥
IsNotOpened {D} disk old why = (back : D) × RefusesToOpen disk old back why

-- the old device holds a saved state of a sound world whose new image needs more than `sectors` sectors
abbrev pub NeedsMore : NewLayout → Disk → ℕ → Type 0
NeedsMore l old sectors =
    (state : SavedState) × Encodes old.seen old.sectors state × IsSoundSaved state.plan.geometry (kept_of state)
    × (sectors < (new_plan l state.plan).total)

-- why nothing was upgraded, on a new device of this many sectors
abbrev pub IsNotUpgraded : {D : Type 0} → NewLayout → (D → Disk) → D → ℕ → UpgradeFault → Type 0
IsNotUpgraded l disk old sectors (fault.Old why) = IsNotOpened disk old why
IsNotUpgraded l disk old sectors fault.Small = NeedsMore l (disk old) sectors
IsNotUpgraded l disk old sectors fault.Failed = Unit {0}
IsNotUpgraded l disk old sectors fault.NoMemory = Unit {0}

-- why the old device can't be opened to be upgraded
abbrev pub IsRefusedAsOld : {D : Type 0} → (D → Disk) → D → UpgradeFault → Type 0
IsRefusedAsOld disk old (fault.Old why) = IsNotOpened disk old why
IsRefusedAsOld disk old fault.NoMemory = Unit {0}
IsRefusedAsOld disk old _ = ⊥

-- a store's present frames are those that its device saves, and stand for a sound world
pub record IsWhole {D : Type 0} (disk : D → Disk) (parts : Parts) (s : DurableState D) : Type 0 where
  pub saves : Encodes (disk s.beneath).seen (disk s.beneath).sectors (saved_by disk s)
  pub sound : IsSoundSaved (saved_by disk s).plan.geometry (kept_of (saved_by disk s))
  pub present : frames_of parts ≡ (saved_by disk s).frames

-- a store was opened from an old device, which was only read and didn't fail: its saved frames are the old device's
pub record IsOpenedFrom {D : Type 0} (disk : D → Disk) (old : D) (s : DurableState D) : Type 0 where
  pub saves : Encodes (disk old).seen (disk old).sectors (saved_by disk s)
  pub only_reads : OnlyReads (disk old) (disk s.beneath)
  pub failures : (disk s.beneath).failures ≡ (disk old).failures

-- What a crash may leave while an image is upgraded. If the image holds saved frames, a crash could have left these
-- before, or they are the old device's.
abbrev pub IsLeftUpgrading : Disk → Disk → Image → Type 0
IsLeftUpgrading old before c = (saved : SavedFrames) → Holds before.sectors c saved →
    ((d : Image) × before.may_leave d × Holds before.sectors d saved) ⊎ Holds old.sectors old.seen saved

-- A device was only read. A call of it failed exactly if `failure_reported` holds.
pub record IsOnlyRead (old new : Disk) (failure_reported : Type 0) : Type 0 where
  pub only_reads : OnlyReads old new
  pub later : old.failures ≤ new.failures
  pub cause : failure_reported ↔ (old.failures < new.failures)

-- a device was only read until it was closed
abbrev pub ReadsAndCloses : {D : Type 0} → (D → Disk) → (D → Type 0) → D → Type 0 → Type 0
ReadsAndCloses {D} disk was_closed old failure_reported =
    (last : D) × was_closed last × IsOnlyRead (disk old) (disk last) failure_reported
