-- The header of a checkpoint.
use Rattle.std.specs.Prelude.{ℕ, ◌+◌, ◌*◌, ◌^◌, ◌<◌, ◌≤◌, ◌==◌, if◌then◌else◌, List, ◌++◌, codes}
use Rattle.layout.specs.declared.header.CheckpointHeader.{CheckpointHeader}
use Rattle.layout.specs.Bytes.{number, zeros}

-- the sector of a header
unfoldable pub header_bytes : CheckpointHeader → List ℕ
header_bytes h = codes "EROSHEAD" ++ number h.sequence ++ number h.generation ++ number h.entries ++ number h.age ++
    zeros 472

-- the limits of a header's fields, if the first header of an image has the number `first`, and a log half has `room`
-- slots
pub record IsHeader (first room : ℕ) (h : CheckpointHeader) : Type 0 where
  pub entries : h.entries ≤ room
  pub age : h.age ≤ 2 ^ 62
  pub generation : h.generation ≤ 2 * h.age
  pub sequence : h.sequence ≤ 2 * h.age + first + (if h.entries == 0 then 1 else 0)
  pub entries_fit : h.entries < 2 ^ 64
