-- The machine that a kernel stands for, and what it means to serve a command.
use Rattle.kernel.specs.Names.{ℕ, Option, None, Some, [], Answer, Command, Geometry, ResultCode, Machine, Running, Up}
use Rattle.kernel.specs.Names.{Down, candidates, Step, second, Disk, Image, Parts, Checkpoint, View, Live, Leaves}
use Rattle.kernel.specs.Names.{LeavesOne, IsUp, disk_at, running}
use Rattle.std.specs.Prelude.{◌≡◌, ◌↔◌, ◌<◌, ◌≤◌, ◌++◌}
use Rattle.model.specs.declared.answer.Answer.TheVariants as answer
use Rattle.model.specs.declared.answer.Refusal.TheVariants as refusal
use Rattle.model.specs.declared.command.Command.TheVariants as command
use Rattle.kernel.specs.declared.processes.served.Served.{Served}
use Rattle.kernel.specs.Machine.{code_with}
use Rattle.kernel.specs.Power.{Power}
use Rattle.kernel.specs.Power as power

-- an empty disk, for a kernel without a device
abbrev pub nothing : Disk
nothing = record { sectors = 0; seen = λ k. []; may_leave = λ c. ⊥; moment = 0; left_since = λ t c. ⊥; failures = 0 }

-- the result code of the order that an invocation carried out; none for any other answer
abbrev pub reported_code : Geometry → Machine → Command → Answer → Option ResultCode
reported_code g (Up r) (command.Invoke i) a = code_with g r.now.objects i a
reported_code g m c a = None

-- an invocation that is done, with the result code of its order
abbrev pub done_with : Option ResultCode → Served
done_with code = record { answer = answer.Done; code = code }

-- the reported checkpoint is the committed one of a machine that is up; for one that is down, nothing is reported
abbrev pub IsCheckpointOf : Machine → Option Checkpoint → Type 0
IsCheckpointOf (Up r) (Some c) = (c.generation ≡ r.saved.generation) × (c.age ≡ r.saved.world.age)
    × (c.entries ≡ r.saved.entries)
IsCheckpointOf (Up r) None = ⊥
IsCheckpointOf (Down saved) reported = reported ≡ None

-- the answer to a command is `Fault` exactly if the count of failures rises
pub record IsCaused (old new : Disk) (a : Answer) : Type 0 where
  pub later : old.failures ≤ new.failures
  pub exact : (a ≡ answer.Refused refusal.Fault) ↔ (old.failures < new.failures)

-- all members of two disks are equal
pub record IsSameDisk (one other : Disk) : Type 0 where
  pub sectors : one.sectors ≡ other.sectors
  pub seen : one.seen ≡ other.seen
  pub may_leave : (c : Image) → one.may_leave c ↔ other.may_leave c
  pub moment : one.moment ≡ other.moment
  pub left_since : (t : ℕ) (c : Image) → one.left_since t c ↔ other.left_since t c
  pub failures : one.failures ≡ other.failures

-- The parameters: the ghost members of a device and of an object store.
module _ {D S : Type 0} (disk : D → Disk) (view : S → View D) (parts : S → Parts) where
  -- a kernel that is up serves a command: if the device doesn't fail, by a step of the machine. After a crash at any
  -- moment the image denotes the saved state, or the one that the command may save
  pub record ServesAt (g : Geometry) (old : Live S) (c : Command) (a : Answer) (new : Live S) : Type 0 where
    pub step : (a ≡ answer.Refused refusal.Fault → ⊥) →
        Step g (Up (running disk view parts old)) c a (Up (running disk view parts new))
    pub up : (a ≡ answer.Refused refusal.Fault → ⊥) → IsUp disk view parts g new
    pub leaves :
        let was = Up (running disk view parts old) in
        LeavesOne g (disk_at disk view parts old) (disk_at disk view parts new) (candidates was ++ second was c)

  abbrev pub ServesUp : Live S → Command → Answer → Live S → Type 0
  ServesUp old c a new = (g : Geometry) → IsUp disk view parts g old → ServesAt g old c a new

  -- the disk beneath a kernel
  abbrev pub disk_of : Power D S → Disk
  disk_of (power.Up l) = disk_at disk view parts l
  disk_of (power.Down d) = disk d
  disk_of power.Between = nothing

  -- d is the device beneath a kernel
  abbrev pub IsDeviceOf : Power D S → D → Type 0
  IsDeviceOf (power.Up l) d = d ≡ (view l.store).beneath
  IsDeviceOf (power.Down other) d = d ≡ other
  IsDeviceOf power.Between d = ⊥

  -- in this geometry a kernel stands for this machine: both are up with the same state, or both are down and a crash
  -- leaves one of the machine's candidates
  abbrev pub Stands : Geometry → Power D S → Machine → Type 0
  Stands g (power.Up l) (Up r) = IsUp disk view parts g l × (r ≡ running disk view parts l)
  Stands g (power.Up l) (Down saved) = ⊥
  Stands g (power.Down d) (Up r) = ⊥
  Stands g (power.Down d) (Down saved) = Leaves g (disk d) saved
  Stands g power.Between m = ⊥

  -- a kernel stands for some machine
  abbrev pub IsSomeMachine : Power D S → Type 0
  IsSomeMachine p = (g : Geometry) × (m : Machine) × Stands g p m

  -- A kernel that stands for m serves a command: m steps to a machine with this answer, and the new kernel stands for
  -- it. After a crash at any moment the image denotes a candidate of m, or the state that the command may save.
  pub record ServesFrom (g : Geometry) (m : Machine) (old : Power D S) (c : Command) (a : Answer) (new : Power D S) :
      Type 0 where
    pub after : Machine
    pub step : Step g m c a after
    pub stands : Stands g new after
    pub leaves : LeavesOne g (disk_of old) (disk_of new) (candidates m ++ second m c)

  -- the kernel serves the command for each machine that the old kernel stands for
  abbrev pub Serves : Power D S → Command → Answer → Power D S → Type 0
  Serves old c a new = (g : Geometry) (m : Machine) → Stands g old m → ServesFrom g m old c a new

  -- the device beneath the kernel is unchanged: no call was made
  abbrev pub SameDevice : Power D S → Power D S → Type 0
  SameDevice (power.Up l) (power.Up k) = (view k.store).beneath ≡ (view l.store).beneath
  SameDevice (power.Down d) (power.Down e) = e ≡ d
  SameDevice power.Between power.Between = Unit {0}
  SameDevice _ _ = ⊥

  -- the command is `migrate`, and nothing is left to copy home: the committed header has no entries
  abbrev pub HasNoneToMove : Power D S → Command → Type 0
  HasNoneToMove p (command.Migrate n) = (g : Geometry) × (r : Running) × Stands g p (Up r) × (r.saved.entries ≡ 0)
  HasNoneToMove p c = ⊥

  -- the code is the result code of the command, whichever machine the kernel stands for
  abbrev pub HasCode : Power D S → Command → Served → Type 0
  HasCode p c served = (g : Geometry) (m : Machine) → Stands g p m → served.code ≡ reported_code g m c served.answer

  -- there is a device beneath a kernel
  abbrev pub HasDevice : Power D S → Type 0
  HasDevice power.Between = ⊥
  HasDevice _ = Unit {0}

  -- the reported checkpoint is the committed one of each machine that the kernel stands for
  abbrev pub IsReported : Power D S → Option Checkpoint → Type 0
  IsReported p reported = (g : Geometry) (m : Machine) → Stands g p m → IsCheckpointOf m reported
