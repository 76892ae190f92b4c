-- Writing the saved state of a device to another device.
use Rattle.image_builder.proofs.Names.{ℕ, List, length, ap, inl, inr, refl, subst, sym, arith, Result, Ok, Err, IfErr, IsErrOf, OnOk, Frame, Disk, Image}
use Rattle.image_builder.proofs.Names.{Agrees, Elsewhere, LeavesOnly, agrees_is, OnlyNow, leaves_weaker, started, Entry, IsDirectory, Encodes, Plan, OpenFault}
use Rattle.image_builder.proofs.Names.{OnlyReads, kept_of, new_plan, IsLeftWriting, state_of, kept_holds_the_same, none_is_held, IsSoundSaved, NewLayout}
use Rattle.image_builder.proofs.Names.{UpgradeFault, IsLeftUpgrading, IsNotUpgraded, IsOnlyRead, Upgrades, numbered, upgraded, IfOk, holds_one, EndInZeros}
use Rattle.image_builder.proofs.Names.{CheckpointHeader, row, version_in}
use Rattle.layout.specs.Denoted.{SavedState}
use Rattle.std.proofs.Common.{◌≡◌, ◌<◌, ◌≤◌, ◌∙◌}
use Rattle.std.specs.Prelude.{◌≢◌}
use Rattle.image_builder.specs.declared.new_layout.NewLayout.TheVariants as layout
use Rattle.layout.specs.declared.open_fault.OpenFault.TheVariants as opening
use Rattle.image_builder.specs.declared.upgrade_fault.UpgradeFault.TheVariants as fault
use Rattle.image_builder.proofs.Numbered.{directory_numbered, length_numbered}

-- ---- the parts of the new image

module _ (image : Image) (size : ℕ) (s : SavedState) (is : Encodes image size s) where
  few : length s.directory ≤ s.plan.geometry.log
  few = omega (arith, is.directory.count, is.header.fits.entries)

  pub directory_fits : IsDirectory s.plan.geometry (numbered 0 s.directory)
  directory_fits = directory_numbered s.plan.geometry s.directory is.directory.fits few is.plan.fits.geometry.most_log

  pub directory_count : length (numbered 0 s.directory) ≡ s.header.entries
  directory_count = length_numbered 0 s.directory ∙ is.directory.count ∙ ap (λ (h : CheckpointHeader). h.entries) is.same

-- the new image has the same state, at its new places
pub same_state : (l : NewLayout) (s : SavedState) (p : Plan) (sequence generation entries age : ℕ) (es : List Entry) (fs : List Frame) →
    p ≡ new_plan l s.plan → sequence ≡ (row (version_in l s.plan)).first_sequence → generation ≡ s.header.generation
    → entries ≡ s.header.entries → age ≡ s.header.age → es ≡ numbered 0 s.directory → fs ≡ s.frames → state_of p (record {
      sequence = sequence;
      generation = generation;
      entries = entries;
      age = age;
    }) es fs ≡ upgraded l s
same_state l s p sequence generation entries age es fs plan_is sequence_is generation_is entries_is age_is directory_is frames_is =
    rw (plan_is, sequence_is, generation_is, entries_is, age_is, directory_is, frames_is) refl

-- ---- results

pub counted : (l : NewLayout) (result : Result ℕ UpgradeFault) (old before new : Disk) (s : SavedState) → Encodes old.seen old.sectors s →
    IsSoundSaved s.plan.geometry (kept_of s) → IfOk result (λ total. total ≡ (new_plan l s.plan).total)
    → OnOk result (Encodes new.seen new.sectors (upgraded l s)) → OnOk result
    ((c : Image) → new.may_leave c → Encodes c new.sectors (upgraded l s)) →
    OnOk result ((c : Image) → new.may_leave c → EndInZeros (new_plan l s.plan) s.header.generation (numbered 0 s.directory) c) →
    OnOk result (Elsewhere 0 (new_plan l s.plan).total before.seen new.seen)
    → IfOk result (λ total. (done : Upgrades l old before new) × (total ≡ (new_plan l done.state.plan).total))
counted l (Ok total) old before new s was sound reported encodes crash zeros elsewhere =
    (record { state = s; was = was; sound = sound; encodes = encodes; crash = crash; zeros = zeros; elsewhere = elsewhere }, reported)
counted l (Err fault) old before new s was sound reported encodes crash zeros elsewhere = tt

-- if nothing was written, the fault says why
pub not_upgraded : {D : Type 0} (l : NewLayout) (result : Result ℕ UpgradeFault) (disk : D → Disk) (old : D) (sectors : ℕ) (s : SavedState)
    → Encodes (disk old).seen (disk old).sectors s → IsSoundSaved s.plan.geometry (kept_of s)
    → (IsErrOf result fault.Small → sectors < (new_plan l s.plan).total) → IfErr result
    (λ why. (opening : OpenFault) → why ≢ fault.Old opening) → IfErr result (λ why. IsNotUpgraded l disk old sectors why)
not_upgraded l (Ok total) disk old sectors s was sound small opened = tt
not_upgraded l (Err (fault.Old why)) disk old sectors s was sound small opened = absurd (opened why refl)
not_upgraded l (Err fault.Small) disk old sectors s was sound small opened = (s, was, sound, small refl)
not_upgraded l (Err fault.Failed) disk old sectors s was sound small opened = tt
not_upgraded l (Err fault.NoMemory) disk old sectors s was sound small opened = tt

-- ---- the old device

-- if the old device was opened and only read, and its count of failures stayed, `IsOnlyRead` holds of it
pub read_where_opened : (result : Result ℕ UpgradeFault) (old new : Disk) →
    IfErr result (λ why. (opening : OpenFault) → why ≢ fault.Old opening) → OnlyReads old new → new.failures ≡ old.failures
    → IsOnlyRead old new (IsErrOf result (fault.Old opening.Failed))
read_where_opened result old new opened only_reads same = record {
  only_reads = only_reads;
  later = omega (arith, same);
  cause = (λ reported. absurd (never result opened reported), λ rose. absurd (omega (arith, same, rose)));
}
  where
    never : (r : Result ℕ UpgradeFault) → IfErr r (λ why. (opening : OpenFault) → why ≢ fault.Old opening) →
        IsErrOf r (fault.Old opening.Failed) → ⊥
    never (Ok total) other reported = cc
    never (Err why) other reported = let is : why ≡ fault.Old opening.Failed = cc in other opening.Failed is

-- ---- what a crash leaves

-- if each crash leaves an image of a state, what a read gives is an image of that state
pub seen_encodes : (old new : Disk) (s : SavedState) → ((c : Image) → new.may_leave c → Encodes c new.sectors s) → new.may_leave new.seen →
    Agrees new.seen old.seen → new.sectors ≡ old.sectors → Encodes old.seen old.sectors s
seen_encodes old new s leaves left same size =
    subst (λ (n : ℕ). Encodes old.seen n s) size (subst (λ (c : Image). Encodes c new.sectors s) (agrees_is new.seen old.seen same)
    (leaves new.seen left))

left_by : (old before : Disk) (s : SavedState) → Encodes old.seen old.sectors s → (c : Image) → IsLeftWriting before (kept_of s) c →
    IsLeftUpgrading old before c
left_by old before s was c (inl (d, left, kept)) saved holds = inl (d, left, (kept_holds_the_same before.sectors d c saved kept).1 holds)
left_by old before s was c (inr (inl none)) saved holds = absurd (none_is_held before.sectors c saved none holds)
left_by old before s was c (inr (inr whole)) saved holds = inr (s, was, sym (holds_one before.sectors c saved (kept_of s) holds whole))

pub left_upgrading : (old : Disk) (s : SavedState) {before new : Disk} → Encodes old.seen old.sectors s →
    LeavesOnly before new (λ c. IsLeftWriting before (kept_of s) c) → LeavesOnly before new (λ c. IsLeftUpgrading old before c)
left_upgrading old s {before} {new} was run =
    leaves_weaker {old = before} {new = new} {P = λ c. IsLeftWriting before (kept_of s) c} (λ c. IsLeftUpgrading old before c)
    (λ c left. left_by old before s was c left) run

-- if no call was made, a crash leaves what it could leave before
pub untouched : (old before : Disk) → OnlyNow before → LeavesOnly before before (λ c. IsLeftUpgrading old before c)
untouched old before only_now = started before (λ c. IsLeftUpgrading old before c) only_now (λ c left saved holds. inl (c, left, holds))
