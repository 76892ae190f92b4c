-- What is found about an image: that it can be opened, or why not.
use Rattle.std.specs.Prelude.{◌≡◌, ℕ, Option, None, Some, Result, Ok, Err}
use Rattle.model.specs.declared.geometry.Geometry.{Geometry}
use Rattle.model.specs.Machine.{Saved}
use Rattle.device.specs.Disk.{Disk, Image}
use Rattle.layout.specs.declared.open_fault.OpenFault.{OpenFault}
use Rattle.checkpoint.specs.Opened.{OnlyReads}
use Rattle.recovery.specs.Denotes.{Denotes}
use Rattle.recovery.specs.Recovered.{IsBad, RefusesToOpen}
use Rattle.image_explainer.specs.SectorFinding.{IsNoReason}
use Rattle.image_explainer.specs.declared.fault.ImageFault.{ImageFault}
use Rattle.image_explainer.specs.Breaking.{Breaks, reason_of}

-- the image denotes a saved state; or it has this fault, with the least reason that applies
abbrev pub IsExplainedBy : ℕ → Image → Option ImageFault → Type 0
IsExplainedBy size c None = (g : Geometry) × (saved : Saved) × Denotes g size c saved
IsExplainedBy size c (Some f) = IsBad size c (reason_of f) × Breaks size c f

-- a device was only read and didn't fail, and what was found about its image is true; or it failed, or memory ran out
abbrev pub Explains : {D : Type 0} → (D → Disk) → D → D → Result (Option ImageFault) OpenFault → Type 0
Explains disk device back (Ok found) =
    IsExplainedBy (disk device).sectors (disk device).seen found × OnlyReads (disk device) (disk back) ×
    ((disk back).failures ≡ (disk device).failures)
Explains disk device back (Err why) = RefusesToOpen disk device back why × IsNoReason why
