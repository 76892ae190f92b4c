-- Bytes encode at most one value, bytes that encode a frame are read as that frame, and an image encodes at most one
-- saved state.
use Rattle.layout.specs.Names.{ℕ, List, Cap, Frame, Geometry, IsKeptCap, Image}
use Rattle.std.specs.Prelude.{◌≡◌}
use Rattle.layout.specs.declared.directory.Entry.{Entry}
use Rattle.layout.specs.declared.gate.Gate.{Gate}
use Rattle.layout.specs.declared.header.CheckpointHeader.{CheckpointHeader}
use Rattle.layout.specs.Capability.{capability_bytes}
use Rattle.layout.specs.Gate.{gate_bytes, gate_of}
use Rattle.layout.specs.Header.{header_bytes, IsHeader}
use Rattle.layout.specs.Directory.{directory_bytes, IsDirectory}
use Rattle.layout.specs.Frame.{IsFrameOf}
use Rattle.layout.specs.FrameReader.{frame_from}
use Rattle.layout.specs.Superblock.{Plan, superblock_bytes, IsPlan}
use Rattle.layout.specs.Denoted.{SavedState, Encodes}

abbrev pub SpellOneCapability : Type 0
SpellOneCapability = (g : Geometry) (age : ℕ) (b c : Cap) → IsKeptCap g age b → IsKeptCap g age c →
    capability_bytes b ≡ capability_bytes c → b ≡ c

abbrev pub SpellOneGate : Type 0
SpellOneGate = (g : Gate) → gate_of (gate_bytes g) ≡ g

abbrev pub SpellOneHeader : Type 0
SpellOneHeader = (room : ℕ) (g h : CheckpointHeader) → IsHeader 0 room g → IsHeader 0 room h →
    header_bytes g ≡ header_bytes h → g ≡ h

abbrev pub SpellOneDirectory : Type 0
SpellOneDirectory = (g : Geometry) (ds es : List Entry) → IsDirectory g ds → IsDirectory g es →
    directory_bytes ds ≡ directory_bytes es → ds ≡ es

abbrev pub SpellOneFrame : Type 0
SpellOneFrame = (g : Geometry) (age object : ℕ) (bytes : List ℕ) (e f : Frame) → IsFrameOf g age object bytes e →
    IsFrameOf g age object bytes f → e ≡ f

abbrev pub SpellOneSuperblock : Type 0
SpellOneSuperblock = (p q : Plan) → IsPlan p → IsPlan q → superblock_bytes p ≡ superblock_bytes q → p ≡ q

abbrev pub DenoteOneState : Type 0
DenoteOneState = (image : Image) (size : ℕ) (s t : SavedState) → Encodes image size s → Encodes image size t → s ≡ t

-- bytes that encode a frame are read as that frame
abbrev pub SpeltIsRead : Type 0
SpeltIsRead = (g : Geometry) (age object : ℕ) (bytes : List ℕ) (f : Frame) → IsFrameOf g age object bytes f →
    frame_from g object bytes ≡ f
