-- What a commit writes, and what a crash during it leaves.
use Rattle.ckpt_log.specs.Names.{ℕ, Some, List, CheckpointHeader, Closed, gate_bytes, is_open, header_bytes}
use Rattle.ckpt_log.specs.Names.{committed_bytes, sequence_in, Image, Disk, Elsewhere}
use Rattle.std.specs.Prelude.{◌≡◌, ◌⊎◌, ◌+◌, ◌*◌, ◌%◌, if◌then◌else◌}

-- the sectors of a header and of its gate, in the slot of its sequence number
abbrev pub header_sector : CheckpointHeader → ℕ
header_sector h = 1 + 2 * (h.sequence % 2)

abbrev pub gate_sector : CheckpointHeader → ℕ
gate_sector h = 2 + 2 * (h.sequence % 2)

-- the bytes of a gate after it is closed: zeros, or unchanged if it was closed
abbrev pub closed_gate : List ℕ → List ℕ
closed_gate bytes = if is_open bytes then gate_bytes Closed else bytes

-- the slot of h during its commit: the old header, or a gate that was closed first, or h
abbrev pub IsInOrder : CheckpointHeader → Image → Image → Type 0
IsInOrder h old new = (new (header_sector h) ≡ old (header_sector h)) ⊎
    ((new (gate_sector h) ≡ closed_gate (old (gate_sector h))) ⊎ (new (header_sector h) ≡ header_bytes h))

-- for some image d that a crash of `disk` may leave, `IsInOrder` holds from d to c
abbrev pub IsInOrderAfter : CheckpointHeader → Disk → Image → Type 0
IsInOrderAfter h disk c = (d : Image) × disk.may_leave d × IsInOrder h d c

-- the committed header of an image is h
abbrev pub Commits : Image → CheckpointHeader → Type 0
Commits image h = committed_bytes image ≡ Some (header_bytes h)

-- each crash leaves the same committed header as a read gives
abbrev pub CommitsOne : Disk → Type 0
CommitsOne disk = (c : Image) → disk.may_leave c → committed_bytes c ≡ committed_bytes disk.seen

-- an image has a committed header, and h has the next sequence number
abbrev pub Precedes : Image → CheckpointHeader → Type 0
Precedes image h = (bytes : List ℕ) × (committed_bytes image ≡ Some bytes) × (sequence_in bytes + 1 ≡ h.sequence)

-- only the slot of h may differ, and the committed header is the same
pub record KeepsHeader (h : CheckpointHeader) (old new : Image) : Type 0 where
  pub elsewhere : Elsewhere (header_sector h) 2 old new
  pub committed : committed_bytes new ≡ committed_bytes old

-- only the slot of h may differ: it contains h, and h is committed
pub record HasNew (h : CheckpointHeader) (old new : Image) : Type 0 where
  pub written : new (header_sector h) ≡ header_bytes h
  pub elsewhere : Elsewhere (header_sector h) 2 old new
  pub committed : Commits new h

abbrev pub IsOldOrNew : CheckpointHeader → Image → Image → Type 0
IsOldOrNew h old new = KeepsHeader h old new ⊎ HasNew h old new

-- c differs only in the slot of h from an image that a crash may leave; its committed header is the one that a read of
-- `disk` gives
pub record IsOld (h : CheckpointHeader) (disk : Disk) (c : Image) : Type 0 where
  pub could_be : (d : Image) × disk.may_leave d × Elsewhere (header_sector h) 2 d c
  pub committed : committed_bytes c ≡ committed_bytes disk.seen
