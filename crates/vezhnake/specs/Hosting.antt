-- A kernel over the host's storage: opening it, running a text, and what a crash of the storage leaves.
use Rattle.vezhnake.specs.Names.{ℕ, List, [], length, take, Option, Some, Result, Disk, Image, Agrees, image_of, Parts}
use Rattle.vezhnake.specs.Names.{View, CopiedFile, file_disk, Power, Denotes, IsDeviceOf, Stands, disk_of, Geometry}
use Rattle.vezhnake.specs.Names.{Machine, Saved, Turn, RunFault, Written, IsConfined, IsRunOf, RunsOver, MaySave}
use Rattle.std.specs.Prelude.{◌≡◌, ◌*◌, ◌≤◌}
use Rattle.kernel.specs.Power as power
use Rattle.vezhnake.specs.declared.recorder.Recorder.{Recorder}
use Rattle.vezhnake.specs.contracts.recorder.RecorderSectorFile.TheImpl.{ghosts}
use Rattle.vezhnake.specs.HostCalls.{HostCall, StorageLeaves, events_of}
use Rattle.vezhnake.specs.Steps.{fresh}

-- the host's storage as a device
abbrev pub HostDevice : Type 0
HostDevice = CopiedFile Recorder ghosts

-- the host's storage as a disk
abbrev pub host_disk : HostDevice → Disk
host_disk d = file_disk d

-- a device over storage that holds these bytes; no call was made on it
pub record IsFresh (bytes : List ℕ) (d : HostDevice) : Type 0 where
  pub history : d.file.history ≡ fresh bytes
  pub size : 512 * (host_disk d).sectors ≡ length bytes
  pub seen : Agrees (host_disk d).seen (image_of bytes)

-- the calls of the device beneath a kernel
abbrev pub calls_beneath : {S : Type 0} → (S → View HostDevice) → Power HostDevice S → List HostCall
calls_beneath view (power.Up l) = (view l.store).beneath.file.history.calls
calls_beneath view (power.Down d) = d.file.history.calls
calls_beneath view power.Between = []

-- the number of calls before those that are kept for the host
abbrev pub start_beneath : {S : Type 0} → (S → View HostDevice) → Power HostDevice S → ℕ
start_beneath view (power.Up l) = (view l.store).beneath.file.pending.start
start_beneath view (power.Down d) = d.file.pending.start
start_beneath view power.Between = 0

-- a text in memory; `failures` counts how often memory for it ran out
abbrev pub in_memory : List ℕ → ℕ → Written
in_memory text failures = record { contents = Some text; failures = failures }

module _ {S : Type 0} (view : S → View HostDevice) (parts : S → Parts) where
  abbrev pub disk_beneath : Power HostDevice S → Disk
  disk_beneath p = disk_of host_disk view parts p

  -- Take a kernel that went through these turns, and storage that carried out the first k device calls, at least
  -- those before the first turn. If the storage then crashes, it holds a state that the run may save.
  abbrev pub Survives : Geometry → Machine → Power HostDevice S → Power HostDevice S → List Turn → Type 0
  Survives g m old new turns =
      (d : HostDevice) (k : ℕ) (c : Image) → IsDeviceOf host_disk view parts new d →
      (disk_beneath old).moment ≤ length (events_of (take k d.file.history.calls)) →
      StorageLeaves d.sectors d.file.history.first (take k d.file.history.calls) c →
      (s : Saved) × MaySave m turns s × Denotes g (disk_beneath old).sectors c s

  -- what `Survives` says, for every run from the old kernel to the new one
  abbrev pub RunsSurvive : Power HostDevice S → Power HostDevice S → Type 0
  RunsSurvive old new = (g : Geometry) (m : Machine) (turns : List Turn) → Stands host_disk view parts g old m →
      IsRunOf host_disk view parts g m old new turns → Survives g m old new turns

  -- a text was run as a script: the answers are those of a run, the authority bound holds, and a crash of the storage
  -- leaves a state that the run may save
  pub record RunsText (old new : Power HostDevice S) (text before after : List ℕ)
      (result : Result (Unit {0}) RunFault) : Type 0 where
    pub unread : Option (List ℕ)
    pub failures : ℕ
    pub run : RunsOver host_disk view parts old new (Some text) unread (in_memory before 0) (in_memory after failures)
        result
    pub confined : IsConfined host_disk view parts old new (Some text) unread
    pub survives : RunsSurvive old new
