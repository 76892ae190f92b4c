-- The results of opening a device, and why opening fails.
use Rattle.checkpoint.specs.Names.{ℕ, ⊤, Image, Disk, Agrees, Narrows, Peeks, IsBadBy, OpenFault}
use Rattle.std.specs.Prelude.{◌≡◌, ◌<◌}
use Rattle.layout.specs.declared.open_fault.OpenFault.TheVariants as refusal

-- why an image is refused: the device failed, memory ran out, or this is the least reason that holds
abbrev pub IsBadFor : Image → ℕ → OpenFault → Type 0
IsBadFor image size refusal.Failed = ⊤
IsBadFor image size refusal.NoMemory = ⊤
IsBadFor image size (refusal.Bad reason) = IsBadBy image size reason

-- nothing was written: a crash of `new` may leave only images that a crash of `old` may leave
pub record OnlyReads (old new : Disk) : Type 0 where
  pub size : new.sectors ≡ old.sectors
  pub seen : Agrees new.seen old.seen
  pub crash : Narrows old new
  pub any_moment : Peeks old new

-- why a device wasn't opened: it failed, or memory ran out, or this is the least of reasons 1 to 7 that holds
abbrev pub IsReason : Disk → Disk → OpenFault → Type 0
IsReason old new refusal.Failed = old.failures < new.failures
IsReason old new refusal.NoMemory = new.failures ≡ old.failures
IsReason old new (refusal.Bad reason) = (new.failures ≡ old.failures) × IsBadBy old.seen old.sectors reason

-- a device wasn't opened, and nothing was written
pub record Refuses {D : Type 0} (disk : D → Disk) (device back : D) (fault : OpenFault) : Type 0 where
  pub why : IsReason (disk device) (disk back) fault
  pub only_reads : OnlyReads (disk device) (disk back)
