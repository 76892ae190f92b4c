-- A device in memory, described by its events.
use Rattle.devices.specs.Names.{ℕ, List, Disk, image_of}
use Rattle.devices.specs.declared.mirror.Mirror.{Mirror}
use Rattle.devices.specs.Past.{Event, State, disk_of}
use Rattle.devices.specs.Record.{events_of}
use Rattle.devices.specs.MirrorSound.{now_of}

-- all events of the device
abbrev pub past_of : Mirror → List Event
past_of m = events_of m.entries.items

-- the sectors of the device now
abbrev pub state_of : Mirror → State
state_of m = now_of m.first.items m.entries.items

-- the disk of a mirror with this number of failures
abbrev pub disk_of_mirror : ℕ → Mirror → Disk
disk_of_mirror failures m = disk_of m.sectors (image_of m.first.items) (past_of m) failures
