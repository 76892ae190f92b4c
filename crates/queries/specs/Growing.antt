-- Describing an image for other sizes.
use Rattle.queries.specs.Names.{Written, Wrote, ℕ, List, Some, Result, Ok, Err, Members, parse_document, IsGeometry}
use Rattle.queries.specs.Names.{WroteFront, Description, IsDescription, Sizes, IsNotRenumbered, IsRenumbered}
use Rattle.queries.specs.Names.{NamesNodes, NamesPages, grown_geometry, description_text, Fault}
use Rattle.std.specs.Prelude.{◌≡◌}
use Rattle.jobs.specs.declared.fault.Fault.TheVariants as fault

-- the text is that of the description, and is read as this description
pub record IsSpelling (d : Description) (text : List ℕ) : Type 0 where
  pub table : Members
  pub read : parse_document text ≡ Some table
  pub said : IsDescription table d
  pub spelled : text ≡ description_text d

-- `Reported` holds of the text of this description
abbrev pub TellsText : Description → (List ℕ → Type 0) → Type 0
TellsText d Reported = (text : List ℕ) × IsSpelling d text × Reported text

-- the text of a description was written; or it couldn't be written whole; or memory ran out
abbrev pub TellsDescription : Description → Written → Written → Result (Unit {0}) Fault → Type 0
TellsDescription d output output_left (Ok a) = TellsText d (Wrote output output_left)
TellsDescription d output output_left (Err fault.CannotWriteOutput) = TellsText d (WroteFront output output_left)
TellsDescription d output output_left (Err fault.NoMemory) = output_left ≡ output
TellsDescription d output output_left (Err _) = ⊥

-- e is d renumbered for these sizes, in which each object has a number
pub record IsGrownFrom (sizes : Sizes) (d e : Description) : Type 0 where
  pub geometry : e.geometry ≡ grown_geometry d.geometry sizes
  pub limits : IsGeometry e.geometry
  pub same : IsRenumbered d e
  pub nodes : NamesNodes e.geometry.nodes d
  pub pages : NamesPages d.geometry e.geometry d

-- a description was renumbered; or these sizes don't suit it; or memory ran out
abbrev pub GrowsDescription : Sizes → Description → Description → Result (Unit {0}) Fault → Type 0
GrowsDescription sizes d e (Ok a) = IsGrownFrom sizes d e
GrowsDescription sizes d e (Err (fault.Sizes why)) = IsNotRenumbered d (grown_geometry d.geometry sizes) why
GrowsDescription sizes d e (Err fault.NoMemory) = Unit {0}
GrowsDescription sizes d e (Err _) = ⊥

abbrev pub TellsGrownText : Description → Sizes → (List ℕ → Type 0) → Type 0
TellsGrownText d sizes Reported = (e : Description) × IsGrownFrom sizes d e × TellsText e Reported

-- the text of a renumbered description was written; or the fault says why not
abbrev pub TellsGrown : Description → Sizes → Written → Written → Result (Unit {0}) Fault → Type 0
TellsGrown d sizes output output_left (Ok a) = TellsGrownText d sizes (Wrote output output_left)
TellsGrown d sizes output output_left (Err fault.CannotWriteOutput) = TellsGrownText d sizes
    (WroteFront output output_left)
TellsGrown d sizes output output_left (Err (fault.Sizes why)) = IsNotRenumbered d (grown_geometry d.geometry sizes) why
    × (output_left ≡ output)
TellsGrown d sizes output output_left (Err fault.NoMemory) = output_left ≡ output
TellsGrown d sizes output output_left (Err _) = ⊥
