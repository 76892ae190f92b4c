-- Two runs of sectors. The second is written after the first is durable.
use Rattle.std.specs.Prelude.{◌⊎◌, ℕ, List}
use Rattle.device.specs.Disk.{Image}
use Rattle.device.specs.Calls.{sectors_of, AreSectors, Elsewhere}

-- `bytes` are in the sectors from `at` on, and all other sectors are those of the old image
pub record IsWrittenAt (at : ℕ) (bytes : List ℕ) (old new : Image) : Type 0 where
  pub whole : AreSectors new at bytes
  pub elsewhere : Elsewhere at (sectors_of bytes) old new

-- the first run is as before or torn, and no other sector differs; or it is whole, and the second may be torn
abbrev pub IsInOrder : ℕ → List ℕ → ℕ → List ℕ → Image → Image → Type 0
IsInOrder at first next second old c =
    Elsewhere at (sectors_of first) old c
    ⊎ (AreSectors c at first × (mid : Image) × IsWrittenAt at first old mid × Elsewhere next (sectors_of second) mid c)
