-- The failures of calls that read.
use Rattle.std.specs.Prelude.{◌<◌, ◌≤◌, ◌↔◌, Result, IsErrOf}
use Rattle.device.specs.Disk.{Disk}
use Rattle.layout.specs.declared.open_fault.OpenFault.{OpenFault}
use Rattle.layout.specs.declared.open_fault.OpenFault.TheVariants.{Failed}

-- the count of failures rises exactly if the call returns `Failed`, and never falls
pub record CountsOpen {T : Type 0} (old new : Disk) (result : Result T OpenFault) : Type 0 where
  pub never_falls : old.failures ≤ new.failures
  pub cause : IsErrOf result Failed ↔ (old.failures < new.failures)
