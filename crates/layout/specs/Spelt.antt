-- The frames that the sectors of an image decode to, and whether the sectors encode them.
use Rattle.layout.specs.Names.{ℕ, List, map, range_with_len, Frame, Image}
use Rattle.std.specs.Prelude.{◌+◌, ◌<◌}
use Rattle.layout.specs.declared.directory.Entry.{Entry}
use Rattle.layout.specs.declared.header.CheckpointHeader.{CheckpointHeader}
use Rattle.layout.specs.Frame.{IsFrameOf}
use Rattle.layout.specs.FrameReader.{frame_from}
use Rattle.layout.specs.Image.{frame_in}
use Rattle.layout.specs.Denoted.{SavedState}
use Rattle.layout.specs.Superblock.{Plan}

-- how many objects there are
abbrev pub count_of : Plan → ℕ
count_of p = p.geometry.nodes + p.geometry.pages

-- the frame that an object's bytes decode to, in the slot that the directory gives or at home
abbrev pub frame_read : Image → Plan → ℕ → List Entry → ℕ → Frame
frame_read image p generation es object = frame_from p.geometry object (frame_in image p generation es object)

-- the frames that the bytes of all objects decode to
unfoldable pub frames_read : Image → Plan → ℕ → List Entry → List Frame
frames_read image p generation es = map (frame_read image p generation es) (range_with_len 0 (count_of p))

-- the bytes of an object encode a frame that can be kept at this age; then the same of all objects
abbrev pub IsSpelt : Image → Plan → ℕ → ℕ → List Entry → ℕ → Type 0
IsSpelt image p age generation es object = IsFrameOf p.geometry age object (frame_in image p generation es object)
    (frame_read image p generation es object)

abbrev pub AreSpelt : Image → Plan → ℕ → ℕ → List Entry → Type 0
AreSpelt image p age generation es = (object : ℕ) → object < count_of p → IsSpelt image p age generation es object

-- the saved state of an image with this committed header and this directory
abbrev pub state_in : Image → Plan → CheckpointHeader → List Entry → SavedState
state_in image p h es = record { plan = p; header = h; directory = es; frames = frames_read image p h.generation es }
