-- The outcomes of `upgrade` and `copy`.
use Rattle.jobs.proofs.Names.{Written, Wrote, ℕ, Ok, Err, ap, subst, sym, IfErr, IsErrOf, OnErr, OnOk, line_of, Disk, NewLayout, new_plan, UpgradeFault}
use Rattle.jobs.proofs.Names.{ReadsAndCloses, Upgrades, WroteFront, Fault, UpgradesImage, old_failed, upgraded_text, UpgradesAndTells}
use Rattle.std.specs.Prelude.{Result, ◌↔◌, List}
use Rattle.std.proofs.Common.{◌≡◌, ◌∙◌}
use Rattle.layout.specs.declared.open_fault.OpenFault.TheVariants as opening
use Rattle.image_builder.specs.declared.upgrade_fault.UpgradeFault.TheVariants as upgrade
use Rattle.jobs.specs.declared.fault.Fault.TheVariants as fault

pub upgrade_cause : (why : UpgradeFault) (P : Type 0) → ((let r : Result ℕ UpgradeFault = Err why in IsErrOf r upgrade.Failed) ↔ P) →
    (why ≡ upgrade.Failed) ↔ P
upgrade_cause why P caused = (λ is. caused.0 (ap (λ (f : UpgradeFault). Err f) is), λ rose. let is = caused.1 rose in cc)

module _ {D E : Type 0} (l : NewLayout) (disk : D → Disk) (new_disk : E → Disk) (old : D) (before new : E) (output output_left : Written)
    (total : ℕ)
    (done : (upgrades : Upgrades l (disk old) (new_disk before) (new_disk new)) × (total ≡ (new_plan l upgrades.state.plan).total)) where
  told_of : (Reported : List ℕ → Type 0) → Reported (line_of (upgraded_text l total)) →
      UpgradesAndTells l disk new_disk old before new Reported
  told_of Reported told = (done.0, subst (λ (n : ℕ). Reported (line_of (upgraded_text l n))) done.1 told)

  -- if an image was upgraded, its size was written, or couldn't be
  pub total_reported : (result : Result (Unit {0}) Fault) → OnOk result (Wrote output output_left (line_of (upgraded_text l total))) →
      OnErr result (WroteFront output output_left (line_of (upgraded_text l total)))
      → IfErr result (λ f. f ≡ fault.CannotWriteOutput) → UpgradesImage l disk new_disk old before new output output_left result
  total_reported (Ok a) reported front is = told_of (Wrote output output_left) reported
  total_reported (Err f) reported front is = rw is (told_of (WroteFront output output_left) front)

-- if the output couldn't be written, no failure of the old device is reported
pub never_old : (result : Result (Unit {0}) Fault) → IfErr result (λ f. f ≡ fault.CannotWriteOutput) → IsErrOf result old_failed → ⊥
never_old (Ok a) is reported = cc
never_old (Err f) is reported = let same : f ≡ old_failed = cc in let other : fault.CannotWriteOutput ≡ old_failed = sym is ∙ same in cc

-- if two reports of a failure agree, `ReadsAndCloses` with one gives it with the other
pub read_reported : {D : Type 0} (disk : D → Disk) (was_closed : D → Type 0) (old : D) (reported other : Type 0) → (other → reported) →
    (reported → other) → ReadsAndCloses disk was_closed old reported → ReadsAndCloses disk was_closed old other
read_reported disk was_closed old reported other back on read = (
  read.0,
  read.1,
  record {
    only_reads = read.2.only_reads;
    later = read.2.later;
    cause = (λ is. read.2.cause.0 (back is), λ rose. on (read.2.cause.1 rose));
  },
)

-- if an upgrade succeeded, no failure of the old device is reported
pub read_upgraded : {D : Type 0} (disk : D → Disk) (was_closed : D → Type 0) (old : D) (total : ℕ) →
    (let r : Result ℕ UpgradeFault = Ok total in ReadsAndCloses disk was_closed old (IsErrOf r (upgrade.Old opening.Failed)))
    → (reported : Result (Unit {0}) Fault) → (IsErrOf reported old_failed → ⊥) →
    ReadsAndCloses disk was_closed old (IsErrOf reported old_failed)
read_upgraded disk was_closed old total read reported never =
    let r : Result ℕ UpgradeFault = Ok total in
    read_reported disk was_closed old (IsErrOf r (upgrade.Old opening.Failed)) (IsErrOf reported old_failed) (λ is. absurd (never is))
    (λ is. cc) read

-- if an upgrade failed, the report says whether the old device did
pub read_refused : {D T : Type 0} (disk : D → Disk) (was_closed : D → Type 0) (old : D) (why : UpgradeFault) →
    (let r : Result T UpgradeFault = Err why in ReadsAndCloses disk was_closed old (IsErrOf r (upgrade.Old opening.Failed)))
    → (let reported : Result (Unit {0}) Fault = Err (fault.Upgrade why) in ReadsAndCloses disk was_closed old (IsErrOf reported old_failed))
read_refused {D} {T} disk was_closed old why read =
    let r : Result T UpgradeFault = Err why in
    let reported : Result (Unit {0}) Fault = Err (fault.Upgrade why) in
    read_reported disk was_closed old (IsErrOf r (upgrade.Old opening.Failed)) (IsErrOf reported old_failed) (λ is. cc) (λ is. cc) read
