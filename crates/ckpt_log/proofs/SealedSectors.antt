-- One sector of a device.
use Rattle.std.proofs.Common.{◌≡◌, ℕ, List, sym, ◌∙◌}
use Rattle.device.specs.Calls.{Agrees}
use Rattle.device.specs.Disk.{Image}
use Rattle.layout.specs.Image.{sectors_from}
use Rattle.layout.proofs.Sectors.{one_from}

-- a sector's bytes don't change if only syncs were made
pub written_is : {mid new : Image} {at : ℕ} (bytes : List ℕ) → Agrees new mid → sectors_from mid at 1 ≡ bytes → new at ≡ bytes
written_is {mid = mid} {at = at} bytes same is = same at ∙ sym (one_from mid at) ∙ is
