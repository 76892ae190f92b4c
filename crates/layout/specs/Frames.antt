-- The numbers of objects, and why a frame can't be read.
use Rattle.layout.specs.Names.{ℕ, List, ⊤, Frame, ObjectHeader, Geometry, Image}
use Rattle.std.specs.Prelude.{◌≡◌, ◌+◌, ◌<◌}
use Rattle.layout.specs.declared.bad_image.BadImage.TheVariants.{BadFrame}
use Rattle.layout.specs.Frame.{IsFrameOf}
use Rattle.layout.specs.FrameReader.{frame_from}
use Rattle.layout.specs.Image.{shaped_at}
use Rattle.layout.specs.declared.shape.Shape.{Shape}
use Rattle.layout.specs.declared.open_fault.OpenFault.{OpenFault}
use Rattle.layout.specs.declared.open_fault.OpenFault.TheVariants.{Failed, NoMemory, Bad}

-- n is the number of an object: nodes come first, then pages
abbrev pub IsObject : Geometry → ℕ → Type 0
IsObject g number = number < g.nodes + g.pages

-- why bytes may be refused: the device failed, or they encode no frame for this number
abbrev pub IsRefused : Geometry → ℕ → ℕ → List ℕ → OpenFault → Type 0
IsRefused g age number bytes Failed = ⊤
IsRefused g age number bytes NoMemory = ⊥
IsRefused g age number bytes (Bad reason) = (reason ≡ BadFrame) × ((f : Frame) → IsFrameOf g age number bytes f → ⊥)

-- the header of the frame with this shape at this sector; it doesn't depend on the object's number
abbrev pub IsHeaderAt : Image → ℕ → Shape → ObjectHeader → Type 0
IsHeaderAt image at shape header = (g : Geometry) (number : ℕ) →
    header ≡ (frame_from g number (shaped_at image at shape)).header
