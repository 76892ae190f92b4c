-- How the committed header of an image without seals is read.
use Rattle.ckpt_log.specs.Names.{ℕ, Option, Some, None, List, ⊤, BadImage, CheckpointHeader, header_bytes}
use Rattle.ckpt_log.specs.Names.{IsHeader, Image, OpenFault, committed_bytes, committed_slot}
use Rattle.std.specs.Prelude.{◌≡◌}
use Rattle.layout.specs.declared.bad_image.BadImage.TheVariants as bad
use Rattle.ckpt_log.specs.declared.header_slot.HeaderSlot.{HeaderSlot}
use Rattle.ckpt_log.specs.declared.header_slot.HeaderSlot.TheVariants.{First, Second}
use Rattle.layout.specs.declared.open_fault.OpenFault.TheVariants as fault

-- the bytes of the header in the chosen slot
abbrev pub chosen : Option HeaderSlot → List ℕ → List ℕ → Option (List ℕ)
chosen None first second = None
chosen (Some First) first second = Some first
chosen (Some Second) first second = Some second

-- these bytes encode the header h
abbrev pub IsHeaderIn : ℕ → Option (List ℕ) → CheckpointHeader → Type 0
IsHeaderIn room bytes h = IsHeader 0 room h × (bytes ≡ Some (header_bytes h))

-- why no header is read: there are no bytes, or they encode no header
abbrev pub IsRefusedBy : ℕ → Option (List ℕ) → BadImage → Type 0
IsRefusedBy room bytes bad.NoHeader = bytes ≡ None
IsRefusedBy room bytes bad.BadHeader = (bytes ≡ None → ⊥) ×
    ((h : CheckpointHeader) → IsHeader 0 room h → bytes ≡ Some (header_bytes h) → ⊥)
IsRefusedBy room bytes _ = ⊥

-- the committed header of an image without seals
pub record HasPlainHeader (image : Image) (room : ℕ) (h : CheckpointHeader) : Type 0 where
  pub fits : IsHeader 0 room h
  pub spelt : committed_bytes image ≡ Some (header_bytes h)

-- why such an image has none; true of any image if the device failed
abbrev pub HasNoPlainHeader : Image → ℕ → OpenFault → Type 0
HasNoPlainHeader image room fault.Failed = ⊤
HasNoPlainHeader image room (fault.Bad bad.NoHeader) = committed_slot image ≡ None
HasNoPlainHeader image room (fault.Bad bad.BadHeader) = (committed_slot image ≡ None → ⊥) ×
    ((h : CheckpointHeader) → IsHeader 0 room h → committed_bytes image ≡ Some (header_bytes h) → ⊥)
HasNoPlainHeader image room _ = ⊥
