-- The log in any version: what a publish and a closing leave, and what is read of a header and its directory.
use Rattle.std.specs.Prelude.{◌≡◌, ◌⊎◌, ℕ, ◌+◌, ◌*◌, ◌%◌, ◌<◌, Bool, true, false, List, take, ⊤}
use Rattle.device.specs.Disk.{Disk, Image}
use Rattle.layout.specs.Committed.{Commits, HasNoSums}
use Rattle.layout.specs.Denoted.{HasBadDirectory, HasBadHeader, HasDirectory, HasHeader, HasNoHeader}
use Rattle.layout.specs.Gate.{gate_bytes}
use Rattle.layout.specs.Header.{header_bytes, IsHeader as IsWithin}
use Rattle.layout.specs.Superblock.{Plan}
use Rattle.layout.specs.Version.{row}
use Rattle.layout.specs.declared.bad_image.BadImage.TheVariants.{BadDirectory, BadHeader, NoHeader}
use Rattle.layout.specs.declared.directory.Entry.{Entry}
use Rattle.layout.specs.declared.gate.Gate.TheVariants.{Open}
use Rattle.layout.specs.declared.open_fault.OpenFault.{OpenFault}
use Rattle.layout.specs.declared.open_fault.OpenFault.TheVariants.{Bad, Failed, NoMemory}
use Rattle.layout.specs.declared.sealed.header.SealedHeader.{SealedHeader}
use Rattle.layout.specs.declared.version.Version.{Version}
use Rattle.layout.specs.sealed.Gate.{numbered_gate_bytes}
use Rattle.layout.specs.sealed.Header.{sealed_header_bytes}

-- ---- headers

-- the sectors of header slot k and of its gate
abbrev pub header_place : Version → ℕ → ℕ
header_place v k = (row v).opening_step * (1 + 2 * k)

abbrev pub gate_place : Version → ℕ → ℕ
gate_place v k = (row v).opening_step * (2 + 2 * k)

-- the slot of a header, and the sectors of the header and of its gate
abbrev pub slot_of : Version → SealedHeader → ℕ
slot_of v h = h.header.sequence % (row v).header_slots

abbrev pub header_at : Version → SealedHeader → ℕ
header_at v h = header_place v (slot_of v h)

abbrev pub gate_at : Version → SealedHeader → ℕ
gate_at v h = gate_place v (slot_of v h)

-- what a header needs on a device whose log half has `room` slots
pub record IsHeader (v : Version) (room : ℕ) (h : SealedHeader) : Type 0 where
  pub fits : IsWithin (row v).first_sequence room h.header
  pub unsealed : (row v).sealed ≡ false → HasNoSums h

-- the sector of a header, with a seal or without; the sector of its open gate, with its number or without
abbrev pub header_row : Bool → SealedHeader → List ℕ
header_row true h = sealed_header_bytes h
header_row false h = header_bytes h.header

abbrev pub gate_row : Bool → SealedHeader → List ℕ
gate_row true h = numbered_gate_bytes h.header.sequence
gate_row false h = gate_bytes Open

-- the header that is committed in `old` is committed in `new`
abbrev pub StaysCommitted : Version → Image → Image → Type 0
StaysCommitted v old new = (h : SealedHeader) → Commits v old h → Commits v new h

-- ---- a publish

-- a crash leaves the committed header that a read gives
abbrev pub CommitsOne : Version → Disk → Type 0
CommitsOne v disk = (c : Image) → disk.may_leave c → StaysCommitted v disk.seen c

-- an image has a committed header, and h is the next one by its sequence number
abbrev pub Precedes : Version → Image → SealedHeader → Type 0
Precedes v image h = (before : SealedHeader) × Commits v image before
    × (before.header.sequence + 1 ≡ h.header.sequence)

-- the same bytes in each sector, except those of h and its gate
abbrev pub SparesRest : Version → SealedHeader → Image → Image → Type 0
SparesRest v h old new = (i : ℕ) → (i ≡ header_at v h → ⊥) → (i ≡ gate_at v h → ⊥) → new i ≡ old i

-- c equals an image that a crash may leave, except in the slot of h; its committed header is the one that `disk` reads
pub record IsOld (v : Version) (h : SealedHeader) (disk : Disk) (c : Image) : Type 0 where
  pub could_be : (d : Image) × disk.may_leave d × SparesRest v h d c
  pub committed : StaysCommitted v disk.seen c

-- only the slot of h is touched: it has h, and h is the committed header
pub record HasNew (v : Version) (h : SealedHeader) (old new : Image) : Type 0 where
  pub written : new (header_at v h) ≡ header_row (row v).sealed h
  pub elsewhere : SparesRest v h old new
  pub committed : Commits v new h

abbrev pub IsOldOrNew : Version → SealedHeader → Disk → Image → Type 0
IsOldOrNew v h disk c = IsOld v h disk c ⊎ HasNew v h disk.seen c

-- ---- closing

-- no header is committed
abbrev pub CommitsNone : Version → Image → Type 0
CommitsNone v image = (h : SealedHeader) → Commits v image h → ⊥

-- only gates differ, and the committed header is the same, or there is none
pub record KeepsOrHasNone (v : Version) (old new : Image) : Type 0 where
  pub elsewhere : (i : ℕ) → ((k : ℕ) → k < (row v).header_slots → i ≡ gate_place v k → ⊥) → new i ≡ old i
  pub committed : StaysCommitted v new old

-- c differs in this way from an image that a crash may leave
abbrev pub WasKeptOrHasNone : Version → Disk → Image → Type 0
WasKeptOrHasNone v disk c = (d : Image) × disk.may_leave d × KeepsOrHasNone v d c

-- ---- the committed header with its directory

-- h is the committed header, and its directory is the front of these entries
pub record HasCommitted (image : Image) (p : Plan) (h : SealedHeader) (entries : List Entry) : Type 0 where
  pub header : HasHeader image p h
  pub directory : HasDirectory image p h (take h.header.entries entries)

-- why an image has no committed header; nothing is said if the device failed
abbrev pub HasNoCommitted : Image → Plan → OpenFault → Type 0
HasNoCommitted image p Failed = ⊤
HasNoCommitted image p (Bad NoHeader) = HasNoHeader image p
HasNoCommitted image p (Bad BadHeader) = (HasNoHeader image p → ⊥) × HasBadHeader image p
HasNoCommitted image p _ = ⊥

-- why the directory of a header isn't read; nothing is said if the device failed
abbrev pub HasNoDirectory : Image → Plan → SealedHeader → OpenFault → Type 0
HasNoDirectory image p h Failed = ⊤
HasNoDirectory image p h NoMemory = ⊥
HasNoDirectory image p h (Bad reason) = (reason ≡ BadDirectory) × HasBadDirectory image p h

-- the least reason why an image has no committed header with a directory
abbrev pub HasNone : Image → Plan → OpenFault → Type 0
HasNone image p (Bad BadDirectory) = (h : SealedHeader) × HasHeader image p h × HasBadDirectory image p h
HasNone image p e = HasNoCommitted image p e
