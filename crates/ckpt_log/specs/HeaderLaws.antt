-- Which numbers a header's bytes have, and what a change of a header slot keeps.
use Rattle.ckpt_log.specs.Names.{ℕ, List, Entry, CheckpointHeader, SealedHeader, Version, row, header_bytes, Plan, IsPlan}
use Rattle.ckpt_log.specs.Names.{sequence_in, bytes_at, frame_in, frame_sector, slot_sector, directory_sector, Image, Commits}
use Rattle.ckpt_log.specs.Names.{directory_length}
use Rattle.std.specs.Prelude.{◌≡◌, ◌+◌, ◌^◌, ◌<◌, ◌≤◌}
use Rattle.ckpt_log.specs.AnyVersion.{Precedes, SparesRest}
use Rattle.ckpt_log.specs.SavedSectors.{SameFrom}

-- the sequence number is read back from a header's bytes
abbrev pub SequencesAreReported : Type 0
SequencesAreReported = (h : CheckpointHeader) → h.sequence < 2 ^ 64 → sequence_in (header_bytes h) ≡ h.sequence

-- the committed header precedes the header with the next sequence number
abbrev pub NextFollows : Type 0
NextFollows = (v : Version) (image : Image) (h next : SealedHeader) → Commits v image h →
    h.header.sequence + 1 ≡ next.header.sequence → Precedes v image next

-- a change of a header slot keeps the superblock, and all sectors after the header slots
abbrev pub HeadersSpareSectors : Type 0
HeadersSpareSectors = (v : Version) (old new : Image) (h : SealedHeader) (at n : ℕ) → (row v).first_home ≤ at →
    SparesRest v h old new → (new 0 ≡ old 0) × SameFrom at n old new

-- a change of a header slot keeps the frames that lie after the headers
abbrev pub HeadersSpareFrames : Type 0
HeadersSpareFrames = (old new : Image) (h : SealedHeader) (p : Plan) (generation : ℕ) (es : List Entry) (object : ℕ)
    → (row p.version).first_home ≤ frame_sector p generation es object → SparesRest p.version h old new
    → frame_in new p generation es object ≡ frame_in old p generation es object

-- a change of a header slot keeps the frames in log slots
abbrev pub HeadersSpareSlots : Type 0
HeadersSpareSlots = (old new : Image) (h : SealedHeader) (p : Plan) (generation slot object : ℕ) → IsPlan p →
    SparesRest p.version h old new
    → bytes_at new (slot_sector p generation slot) p object ≡ bytes_at old (slot_sector p generation slot) p object

-- a change of a header slot keeps the sectors of directories
abbrev pub HeadersSpareDirectories : Type 0
HeadersSpareDirectories = (old new : Image) (h : SealedHeader) (p : Plan) (generation n : ℕ) → IsPlan p →
    SparesRest p.version h old new
    → SameFrom (directory_sector p generation) (directory_length p.version n) old new
