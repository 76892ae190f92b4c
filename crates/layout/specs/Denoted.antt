-- What the sectors of a device denote: superblock, header, directory, frames and, in version 3, seals.
use Rattle.layout.specs.Names.{ℕ, Bool, List, length, Frame, frame_at, Image, Sums}
use Rattle.std.specs.Prelude.{◌≡◌, ◌⊎◌, ◌+◌, ◌<◌, ◌≤◌, true, false}
use Rattle.layout.specs.declared.bad_image.BadImage.{BadImage}
use Rattle.layout.specs.declared.bad_image.BadImage.TheVariants as bad
use Rattle.layout.specs.declared.directory.Entry.{Entry}
use Rattle.layout.specs.declared.header.CheckpointHeader.{CheckpointHeader}
use Rattle.layout.specs.declared.sealed.header.SealedHeader.{SealedHeader}
use Rattle.layout.specs.Committed.{Commits, HasNoCounting, no_sums}
use Rattle.layout.specs.Directory.{directory_bytes, IsDirectory}
use Rattle.layout.specs.Frame.{IsFrameOf}
use Rattle.layout.specs.Header.{IsHeader}
use Rattle.layout.specs.Image.{directory_in, directory_sector, frame_in, total_in}
use Rattle.layout.specs.Superblock.{Plan, superblock_bytes, HasMark, IsPlan}
use Rattle.layout.specs.Version.{row}
use Rattle.layout.specs.sealed.Directory.{AreEntries, sums_of_entries}
use Rattle.layout.specs.sealed.Units.{HasUnits}

-- ---- the parts of a saved state

-- the superblock of an image
pub record HasPlan (image : Image) (size : ℕ) (p : Plan) : Type 0 where
  pub least : 5 ≤ size
  pub whole : p.total ≤ size
  pub fits : IsPlan p
  pub spelt : image 0 ≡ superblock_bytes p

-- the committed header of an image
pub record HasHeader (image : Image) (p : Plan) (h : SealedHeader) : Type 0 where
  pub committed : Commits p.version image h
  pub fits : IsHeader (row p.version).first_sequence p.geometry.log h.header

abbrev pub AreEntriesIf : Bool → Image → Plan → ℕ → List Entry → Type 0
AreEntriesIf true image p generation es = AreEntries image (directory_sector p generation) es
AreEntriesIf false image p generation es = directory_in image p generation (length es) ≡ directory_bytes es

-- the directory of a generation has these entries
abbrev pub AreEntriesOf : Image → Plan → ℕ → List Entry → Type 0
AreEntriesOf image p generation es = AreEntriesIf (row p.version).sealed image p generation es

-- the directory sums of entries, or zeros without seals
abbrev pub sums_if : Bool → List Entry → Sums
sums_if true es = sums_of_entries es
sums_if false es = no_sums

-- the directory of the committed header
pub record HasDirectory (image : Image) (p : Plan) (h : SealedHeader) (es : List Entry) : Type 0 where
  pub count : length es ≡ h.header.entries
  pub fits : IsDirectory p.geometry es
  pub spelt : AreEntriesOf image p h.header.generation es
  pub sums : sums_if (row p.version).sealed es ≡ h.directory

-- a saved state: its frames, and where they lie
pub record SavedState : Type 0 where
  pub plan : Plan
  pub header : CheckpointHeader
  pub directory : List Entry
  pub frames : List Frame

-- the sectors of an image encode the saved state s: its superblock, header, directory and frames
pub record Encodes (image : Image) (size : ℕ) (s : SavedState) : Type 0 where
  pub plan : HasPlan image size s.plan
  pub commit : SealedHeader
  pub same : commit.header ≡ s.header
  pub header : HasHeader image s.plan commit
  pub directory : HasDirectory image s.plan commit s.directory
  pub count : length s.frames ≡ s.plan.geometry.nodes + s.plan.geometry.pages
  pub each : (object : ℕ) → object < s.plan.geometry.nodes + s.plan.geometry.pages →
      IsFrameOf s.plan.geometry s.header.age object (frame_in image s.plan s.header.generation s.directory object)
      (frame_at s.frames object)
  pub units : (row s.plan.version).sealed ≡ true →
      HasUnits image s.plan commit.root s.header.generation s.directory

-- ---- reasons to refuse an image

-- 1: fewer than 5 sectors, or fewer than the total
abbrev pub IsTooSmall : Image → ℕ → Type 0
IsTooSmall image size = (size < 5) ⊎ (size < total_in (image 0))

-- 2: another magic or version, or a byte after the ranges that isn't 0
abbrev pub IsNoSuperblock : Image → Type 0
IsNoSuperblock image = HasMark (image 0) → ⊥

-- 3: a number of the superblock outside its limits
abbrev pub HasBadGeometry : Image → Type 0
HasBadGeometry image = (p : Plan) → IsPlan p → image 0 ≡ superblock_bytes p → ⊥

-- 4: no header that counts
abbrev pub HasNoHeader : Image → Plan → Type 0
HasNoHeader image p = HasNoCounting p.version image

-- 5: no valid header is committed
abbrev pub HasBadHeader : Image → Plan → Type 0
HasBadHeader image p = (h : SealedHeader) → HasHeader image p h → ⊥

-- 6: the bytes of the directory encode no valid directory
abbrev pub HasBadDirectory : Image → Plan → SealedHeader → Type 0
HasBadDirectory image p h = (es : List Entry) → HasDirectory image p h es → ⊥

-- the bytes of some object's frame encode no valid frame for its number
abbrev pub HasBadObject : Image → Plan → CheckpointHeader → List Entry → Type 0
HasBadObject image p h es =
    (object : ℕ) × (object < p.geometry.nodes + p.geometry.pages)
    × ((f : Frame) → IsFrameOf p.geometry h.age object (frame_in image p h.generation es object) f → ⊥)

-- 7: such a frame; or in version 3 a seal that is wrong
abbrev pub HasBadFrame : Image → Plan → SealedHeader → List Entry → Type 0
HasBadFrame image p h es =
    HasBadObject image p h.header es
    ⊎ (((row p.version).sealed ≡ true) × (HasUnits image p h.root h.header.generation es → ⊥))

-- this reason holds, and no smaller one; reasons 8 to 10 need more than the sectors
abbrev pub IsBadBy : Image → ℕ → BadImage → Type 0
IsBadBy image size bad.Small = IsTooSmall image size
IsBadBy image size bad.NotASuperblock = (IsTooSmall image size → ⊥) × IsNoSuperblock image
IsBadBy image size bad.BadGeometry = (IsTooSmall image size → ⊥) × HasMark (image 0) × HasBadGeometry image
IsBadBy image size bad.NoHeader = (p : Plan) × HasPlan image size p × HasNoHeader image p
IsBadBy image size bad.BadHeader =
    (p : Plan) × HasPlan image size p × (HasNoHeader image p → ⊥) × HasBadHeader image p
IsBadBy image size bad.BadDirectory = (p : Plan) × (h : SealedHeader) × HasPlan image size p × HasHeader image p h ×
    HasBadDirectory image p h
IsBadBy image size bad.BadFrame =
    (p : Plan) × (h : SealedHeader) × (es : List Entry) × HasPlan image size p × HasHeader image p h × HasDirectory
    image p h es × HasBadFrame image p h es
IsBadBy image size _ = ⊥
