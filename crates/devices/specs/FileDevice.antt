-- A device in a file.
use Rattle.devices.specs.Names.{Disk, image_of}
use Rattle.devices.specs.Past.{disk_of}
use Rattle.devices.specs.declared.file_device.CopiedFile.{CopiedFile}
use Rattle.devices.specs.declared.host_file.HostFile.{HostFile}
use Rattle.devices.specs.declared.raw_file.RawFile as raws
use Rattle.devices.specs.declared.sector_file.SectorFile as files

-- the disk of a device in a file: the file's first bytes, and the events since
abbrev pub file_disk : {F : Type 0} {g : files.Ghosts F} → CopiedFile F g → Disk
file_disk {g = g} d = disk_of d.sectors (image_of (g.first d.file)) (g.events d.file) (g.failures d.file)

-- the operating system's file that the device writes to
abbrev pub raw_file : {F : Type 0} {r : raws.Ghosts F} {g : files.Ghosts (HostFile F r)} → CopiedFile (HostFile F r) g →
    F
raw_file d = d.file.file
