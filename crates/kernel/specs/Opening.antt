-- The outcomes of opening a device, for a kernel.
use Rattle.kernel.specs.Names.{List, Geometry, Answer, Refusal, Machine, Saved, Up, Down, Step, opened, Only, Disk}
use Rattle.kernel.specs.Names.{OpenFault, OnlyReads, Parts, View, Denotes, Leaves, LeavesOne}
use Rattle.std.specs.Prelude.{◌≡◌}
use Rattle.model.specs.declared.answer.Refusal.TheVariants as refusal
use Rattle.model.specs.declared.command.Command.TheVariants as command
use Rattle.layout.specs.declared.open_fault.OpenFault.TheVariants as fault
use Rattle.kernel.specs.Power.{Power}
use Rattle.kernel.specs.Power as power
use Rattle.kernel.specs.Standing.{Stands, disk_of}

-- the refusal if a kernel can't open its device again
abbrev pub refused_by : OpenFault → Refusal
refused_by fault.Failed = refusal.Fault
refused_by _ = refusal.NoMemory

-- after a crash, the image on this device denotes one of some saved states
abbrev pub IsSomeDown : {D : Type 0} → (D → Disk) → D → Type 0
IsSomeDown disk d = (g : Geometry) × (saved : List Saved) × Leaves g (disk d) saved

-- the fault is a failed device or lack of memory: the image isn't bad
abbrev pub IsNoReason : OpenFault → Type 0
IsNoReason (fault.Bad reason) = ⊥
IsNoReason _ = Unit {0}

-- a kernel is up, and its store has the setting
abbrev pub IsSetAt : {D S T : Type 0} → (T → S → Type 0) → T → Power D S → Type 0
IsSetAt is_set setting (power.Up l) = is_set setting l.store
IsSetAt is_set setting _ = ⊥

module _ {D S : Type 0} (disk : D → Disk) (view : S → View D) (parts : S → Parts) where
  -- a kernel opened a device and wrote nothing: it is up at the saved state that the image denotes, and a crash
  -- leaves the same image
  pub record Opens (device : D) (p : Power D S) : Type 0 where
    pub geometry : Geometry
    pub saved : Saved
    pub denoted : Denotes geometry (disk device).sectors (disk device).seen saved
    pub stands : Stands disk view parts geometry p (Up (opened geometry saved))
    pub durable : Only (disk_of disk view parts p).seen (disk_of disk view parts p)
    pub only_reads : OnlyReads (disk device) (disk_of disk view parts p)
    pub failures : (disk_of disk view parts p).failures ≡ (disk device).failures

  -- a kernel opened its device again: this is a step of a machine that is down with these candidates
  pub record Reopened (g : Geometry) (saved : List Saved) (device : D) (a : Answer) (new : Power D S) : Type 0 where
    pub after : Machine
    pub step : Step g (Down saved) command.Restart a after
    pub stands : Stands disk view parts g new after
    pub leaves : LeavesOne g (disk device) (disk_of disk view parts new) saved
