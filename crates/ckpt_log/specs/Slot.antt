-- Frames in log slots, and directories, are read back as written.
use Rattle.ckpt_log.specs.Names.{ℕ, List, ⊤, Frame, Geometry, BadDirectory, Entry, directory_bytes, IsDirectory}
use Rattle.ckpt_log.specs.Names.{IsFrameOf, frame_bytes, OpenFault, Failed, NoMemory, Bad, IsRefused}
use Rattle.std.specs.Prelude.{◌≡◌}

-- why bytes are refused: the device failed, or they encode no directory
abbrev pub IsBadDirectory : Geometry → List ℕ → OpenFault → Type 0
IsBadDirectory g bytes Failed = ⊤
IsBadDirectory g bytes NoMemory = ⊥
IsBadDirectory g bytes (Bad reason) = (reason ≡ BadDirectory) ×
    ((es : List Entry) → IsDirectory g es → bytes ≡ directory_bytes es → ⊥)

-- the bytes of a frame are read as that frame only, and are refused only if the device fails
abbrev pub SlotsAreReadBack : Type 0
SlotsAreReadBack = (g : Geometry) (age object : ℕ) (f : Frame) → IsFrameOf g age object (frame_bytes g object f) f →
    ((read : Frame) → IsFrameOf g age object (frame_bytes g object f) read → read ≡ f)
    × ((e : OpenFault) → IsRefused g age object (frame_bytes g object f) e → e ≡ Failed)

-- the bytes of a directory are read as that directory only, and are refused only if the device fails
abbrev pub DirectoriesAreReadBack : Type 0
DirectoriesAreReadBack = (g : Geometry) (es : List Entry) → IsDirectory g es →
    ((read : List Entry) → IsDirectory g read → directory_bytes es ≡ directory_bytes read → read ≡ es)
    × ((e : OpenFault) → IsBadDirectory g (directory_bytes es) e → e ≡ Failed)
