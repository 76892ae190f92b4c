-- While the gates of an image are being closed, it holds the same saved frames. After the last gate is closed, it
-- holds none.
use Rattle.image_writer.specs.Names.{ℕ, Image, Holds, SavedFrames}
use Rattle.std.specs.Prelude.{◌↔◌}
use Rattle.image_writer.specs.Written.{HasNoHeader, KeepsImage}

-- if only gates change, and the committed header stays the same, the image holds the saved frames that it held before,
-- if any
abbrev pub KeptHoldsTheSame : Type 0
KeptHoldsTheSame = (size : ℕ) (old new : Image) (saved : SavedFrames) → KeepsImage old new →
    (Holds size old saved ↔ Holds size new saved)

-- an image without a committed header holds no saved frames
abbrev pub NoneIsHeld : Type 0
NoneIsHeld = (size : ℕ) (c : Image) (saved : SavedFrames) → HasNoHeader c → Holds size c saved → ⊥
