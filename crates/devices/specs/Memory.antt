-- A device in memory.
use Rattle.devices.specs.Names.{ℕ, List, vec_len, Disk}
use Rattle.std.specs.Prelude.{◌≡◌, ◌-◌}
use Rattle.devices.specs.declared.memory.Memory.{Memory}
use Rattle.devices.specs.declared.record.Outcome.{Outcome}
use Rattle.devices.specs.Past.{Event, State}
use Rattle.devices.specs.Mirror.{past_of, state_of, disk_of_mirror}

-- all events of a device in memory
abbrev pub memory_past : Memory → List Event
memory_past m = past_of m.mirror

-- the sectors of the device now
abbrev pub memory_state : Memory → State
memory_state m = state_of m.mirror

-- how many more entries the device's record has memory for
abbrev pub capacity_left : Memory → ℕ
capacity_left m = m.room - vec_len m.mirror.entries

-- what a power cut leaves of this device
abbrev pub outcome_of : Memory → Outcome
outcome_of m = m.outcome

-- nothing was written to the device, and its record is unchanged
abbrev pub IsUntouched : Memory → Memory → Type 0
IsUntouched old new = new.mirror ≡ old.mirror

-- the disk of a device in memory
abbrev pub memory_disk : Memory → Disk
memory_disk m = disk_of_mirror m.failures.number m.mirror
