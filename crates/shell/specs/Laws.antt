-- A session is a run of the machine.
use Rattle.std.specs.Prelude.{ℕ, Bool, List, Option, Result}
use Rattle.capability.specs.Parts.{Parts}
use Rattle.checkpoint.specs.Store.{View}
use Rattle.device.specs.Disk.{Disk}
use Rattle.kernel.specs.Standing.{Stands}
use Rattle.model.specs.Machine.{Machine}
use Rattle.model.specs.Run.{Turn}
use Rattle.model.specs.declared.geometry.Geometry.{Geometry}
use Rattle.runs.specs.KernelRuns.{IsRunOf}
use Rattle.script.specs.declared.fault.RunFault.{RunFault}
use Rattle.shell.specs.Sessions.{Inspects, ServesFrom, Session}
use Rattle.shell.specs.declared.help.Topic.{Topic}

-- The parameters: the ghost members of a device, of an object store and of an inspector.
module _ {D S : Type 0} (disk : D → Disk) (view : S → View D) (parts : S → Parts) (inspects : Inspects D) where
  -- for each machine that the kernel stands for, all turns of a session are a run of it
  abbrev pub SessionsAreRuns : Type 0
  SessionsAreRuns = (topics : List Topic) (prompts : Bool) (ahead ahead_left : Option (List (List ℕ))) (s t : Session D S)
      (r : Result (Unit {0}) RunFault) → ServesFrom disk view parts inspects topics prompts ahead ahead_left s t r →
      (g : Geometry) (m : Machine) → Stands disk view parts g s.kernel m →
      (turns : List Turn) × IsRunOf disk view parts g m s.kernel t.kernel turns
