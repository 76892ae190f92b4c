-- A device that stops after some calls.
use Rattle.devices.specs.Names.{ℕ, Option, Some, option_map, Result, IsErr, Disk}
use Rattle.std.specs.Prelude.{◌≡◌, ◌<◌, ◌+◌, ◌-◌}
use Rattle.devices.specs.declared.fuse.Fuse.{Fuse}

-- the device to which the fuse passes calls
abbrev pub beneath : {D : Type 0} → Fuse D → D
beneath fuse = fuse.inner

-- how many calls are still passed on, or `None` if all are
abbrev pub calls_left : {D : Type 0} → Fuse D → Option ℕ
calls_left fuse = fuse.left

-- no call is passed on any more
abbrev pub IsBlown : {D : Type 0} → Fuse D → Type 0
IsBlown fuse = calls_left fuse ≡ Some 0

-- A blown fuse fails and leaves the inner device unchanged. A fuse that isn't blown fails only if that device does.
pub record Passes {D T E : Type 0} (disk : D → Disk) (old new : Fuse D) (result : Result T E) : Type 0 where
  pub blown : IsBlown old → IsErr result
  pub spared : IsBlown old → beneath new ≡ beneath old
  pub passed : (IsBlown old → ⊥) → IsErr result → (disk (beneath old)).failures < (disk (beneath new)).failures
  pub left : calls_left new ≡ option_map (λ calls. calls - 1) (calls_left old)

-- the disk of the inner device, with the fuse's own failures added
abbrev pub fused : {D : Type 0} → (D → Disk) → Fuse D → Disk
fused disk fuse = record {
  sectors = (disk fuse.inner).sectors;
  seen = (disk fuse.inner).seen;
  may_leave = (disk fuse.inner).may_leave;
  moment = (disk fuse.inner).moment;
  left_since = (disk fuse.inner).left_since;
  failures = fuse.failures.number + (disk fuse.inner).failures;
}
