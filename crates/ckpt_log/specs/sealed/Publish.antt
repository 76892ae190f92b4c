-- Which sectors a publish writes, and what a crash during it leaves.
use Rattle.std.specs.Prelude.{◌≡◌, ◌⊎◌, ℕ, ◌+◌, ◌%◌}
use Rattle.device.specs.Calls.{Elsewhere}
use Rattle.device.specs.Disk.{Disk, Image}
use Rattle.layout.specs.declared.sealed.header.SealedHeader.{SealedHeader}
use Rattle.layout.specs.sealed.Header.{sealed_header_bytes}
use Rattle.layout.specs.sealed.Opening.{Commits, gate_sector, header_sector}

-- the sectors of a header and of its gate, in the slot of its sequence number
abbrev pub header_at : SealedHeader → ℕ
header_at h = header_sector (h.header.sequence % 3)

abbrev pub gate_at : SealedHeader → ℕ
gate_at h = gate_sector (h.header.sequence % 3)

-- each header that is committed in `old` is committed in `new`
abbrev pub StaysCommitted : Image → Image → Type 0
StaysCommitted old new = (h : SealedHeader) → Commits old h → Commits new h

-- each crash leaves the same committed header as a read gives
abbrev pub CommitsOne : Disk → Type 0
CommitsOne disk = (c : Image) → disk.may_leave c → StaysCommitted disk.seen c

-- an image has a committed header, and h has the next sequence number
abbrev pub Precedes : Image → SealedHeader → Type 0
Precedes image h = (before : SealedHeader) × Commits image before × (before.header.sequence + 1 ≡ h.header.sequence)

-- the same bytes in each sector except those of h and its gate
abbrev pub SparesRest : SealedHeader → Image → Image → Type 0
SparesRest h old new = (i : ℕ) → (i ≡ header_at h → ⊥) → (i ≡ gate_at h → ⊥) → new i ≡ old i

-- c differs only in the slot of h from an image that a crash may leave; its committed header is the one that a read of
-- `disk` gives
pub record IsOld (h : SealedHeader) (disk : Disk) (c : Image) : Type 0 where
  pub could_be : (d : Image) × disk.may_leave d × SparesRest h d c
  pub committed : StaysCommitted disk.seen c

-- only the slot of h may differ: it contains h, and h is committed
pub record HasNew (h : SealedHeader) (old new : Image) : Type 0 where
  pub written : new (header_at h) ≡ sealed_header_bytes h
  pub elsewhere : SparesRest h old new
  pub committed : Commits new h

abbrev pub IsOldOrNew : SealedHeader → Disk → Image → Type 0
IsOldOrNew h disk c = IsOld h disk c ⊎ HasNew h disk.seen c

-- either the gate of h is unchanged; or h is written, and so is all that was written before it
abbrev pub IsInOrder : SealedHeader → Disk → Image → Type 0
IsInOrder h disk c =
    ((d : Image) × disk.may_leave d × Elsewhere (header_at h) 1 d c)
    ⊎ ((c (header_at h) ≡ sealed_header_bytes h) × SparesRest h disk.seen c)
