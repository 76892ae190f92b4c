-- The sectors on which a saved state depends.
use Rattle.ckpt_log.specs.Names.{ℕ, List, Entry, CheckpointHeader, SealedHeader, Image, place_length, HasDirectory, HasUnits}
use Rattle.ckpt_log.specs.Names.{frame_in, frame_sector, directory_sector, SavedState, Encodes, Plan, Sums, directory_length}
use Rattle.ckpt_log.specs.Names.{Version, row}
use Rattle.std.specs.Prelude.{◌≡◌, ◌+◌, ◌<◌}
use Rattle.ckpt_log.specs.AnyVersion.{StaysCommitted, gate_place, header_place}

-- the same bytes in the n sectors from `at` on
abbrev pub SameFrom : ℕ → ℕ → Image → Image → Type 0
SameFrom at n old new = (i : ℕ) → i < n → new (at + i) ≡ old (at + i)

-- the same bytes in the header slots and their gates
pub record SameOpening (v : Version) (old new : Image) : Type 0 where
  pub headers : (k : ℕ) → k < (row v).header_slots → new (header_place v k) ≡ old (header_place v k)
  pub gates : (k : ℕ) → k < (row v).header_slots → new (gate_place v k) ≡ old (gate_place v k)

-- the same bytes in the block of each object: a page's frame, or a whole cluster, in the log or at home
abbrev pub SameBlocks : Plan → ℕ → List Entry → Image → Image → Type 0
SameBlocks p generation es old new = (object : ℕ) → object < p.geometry.nodes + p.geometry.pages →
    SameFrom (frame_sector p generation es object) (place_length p object) old new

-- two images have the same header slots and gates, the same directory of h, and the same block of each object
pub record SameWhereRead (p : Plan) (h : CheckpointHeader) (es : List Entry) (old new : Image) : Type 0 where
  pub headers : SameOpening p.version old new
  pub directory : SameFrom (directory_sector p h.generation) (directory_length p.version h.entries) old new
  pub frames : SameBlocks p h.generation es old new

-- images that agree in the header slots have the same committed header
abbrev pub SameHeader : Type 0
SameHeader = (v : Version) (old new : Image) → SameOpening v old new → StaysCommitted v old new

-- images that agree in the sectors of a directory have the same directory
abbrev pub SameDirectory : Type 0
SameDirectory = (old new : Image) (p : Plan) (h : SealedHeader) (es : List Entry) →
    SameFrom (directory_sector p h.header.generation) (directory_length p.version h.header.entries) old new
    → HasDirectory old p h es → HasDirectory new p h es

-- images that agree in the sectors of a frame have the same frame
abbrev pub SameFrames : Type 0
SameFrames = (old new : Image) (p : Plan) (h : CheckpointHeader) (es : List Entry) (object : ℕ) →
    SameFrom (frame_sector p h.generation es object) (place_length p object) old new
    → frame_in new p h.generation es object ≡ frame_in old p h.generation es object

-- images that agree in all blocks have the same sealed units, with the same root
abbrev pub SameUnits : Type 0
SameUnits = (old new : Image) (p : Plan) (root : Sums) (generation : ℕ) (es : List Entry) →
    SameBlocks p generation es old new → HasUnits old p root generation es → HasUnits new p root generation es

-- images that agree in all these sectors, and in the superblock, denote the same saved state
abbrev pub SameSaved : Type 0
SameSaved = (old new : Image) (size : ℕ) (s : SavedState) → SameFrom 0 1 old new →
    SameWhereRead s.plan s.header s.directory old new → Encodes old size s → Encodes new size s
