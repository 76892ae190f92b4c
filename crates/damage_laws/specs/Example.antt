-- An image of version 3 with 16 free nodes and a free page. It is good, and so the laws aren't empty.
use Rattle.std.specs.Prelude.{ℕ, ◌==◌, ◌<◌, if◌then◌else◌, nat_lt, [], ◌∷◌, replicate}
use Rattle.device.specs.Disk.{Image}
use Rattle.model.specs.Frame.{blank_frame}
use Rattle.layout.specs.Bytes.{zeros}
use Rattle.layout.specs.Committed.{no_sums}
use Rattle.layout.specs.Denoted.{SavedState}
use Rattle.layout.specs.Superblock.{Plan, superblock_bytes}
use Rattle.layout.specs.declared.sealed.header.SealedHeader.{SealedHeader}
use Rattle.layout.specs.declared.version.Version.TheVariants.{Three}
use Rattle.layout.specs.sealed.Gate.{numbered_gate_bytes}
use Rattle.layout.specs.sealed.Header.{sealed_header_bytes}
use Rattle.damage_laws.specs.Damage.{IsGood}
use Rattle.damage_laws.specs.Gates.{HasWholeGate}

-- 16 nodes from sector 56 on, one page from sector 88 on, and two log halves of 16 slots
abbrev pub example_plan : Plan
example_plan = record {
  version = Three;
  geometry = record { nodes = 16; pages = 1; log = 16 };
  ranges = record { first = 0; count = 16; sector = 56 } ∷ record { first = 16; count = 1; sector = 88 } ∷ [];
  half_0 = 104;
  half_1 = 256;
  total = 408;
}

-- a header of generation 0, with nothing in the log
abbrev pub example_header : ℕ → SealedHeader
example_header sequence = record {
  header = record { sequence = sequence; generation = 0; entries = 0; age = 0 };
  root = no_sums;
  directory = no_sums;
}

-- superblock, headers 1 and 2 with their gates, a closed gate, and zeros
abbrev pub example : Image
example i =
    if i == 0 then superblock_bytes example_plan else
    if i == 16 then numbered_gate_bytes 0 else
    if i == 24 then sealed_header_bytes (example_header 1) else
    if i == 32 then numbered_gate_bytes 1 else
    if i == 40 then sealed_header_bytes (example_header 2) else
    if i == 48 then numbered_gate_bytes 2 else
    if nat_lt i 408 then zeros 512 else []

abbrev pub example_state : SavedState
example_state = record {
  plan = example_plan;
  header = (example_header 2).header;
  directory = [];
  frames = replicate 17 blank_frame;
}

abbrev pub ExampleIsGood : Type 0
ExampleIsGood = IsGood example 408 example_state × ((k : ℕ) → k < 3 → HasWholeGate example k)
