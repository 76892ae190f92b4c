-- Names in the numbers of an image of other sizes.
use Rattle.queries.specs.Names.{Written, Wrote, WroteFront, ℕ, List, [], Some, Result, Ok, Err, Disk, Fault, Geometry}
use Rattle.queries.specs.Names.{Description, SavedState, Sizes, grown_geometry, nat_lt}
use Rattle.std.specs.Prelude.{◌++◌, ◌-◌, ◌&&◌, ◌⊎◌, if◌then◌else◌, Bool, Option, None, codes, decimal, string_bytes}
use Rattle.std.specs.List.{flat_map}
use Rattle.image_describer.specs.Grown.{moved}
use Rattle.jobs.specs.declared.fault.Fault.TheVariants as fault
use Rattle.model.specs.Text.{line_of}
use Rattle.names.specs.declared.name.Name.{Name}
use Rattle.queries.specs.Growing.{TellsGrown}
use Rattle.queries.specs.Images.{TellsGrownState, TellsImage}

-- a number of an image is one in the other image too: the node or the page there has a number
abbrev pub is_kept : Geometry → Geometry → ℕ → Bool
is_kept old new n = if nat_lt n old.nodes then nat_lt n new.nodes
    else nat_lt (n - old.nodes) old.pages && nat_lt (n - old.nodes) new.pages

-- that number
abbrev pub place_of : Geometry → Geometry → ℕ → Option ℕ
place_of old new n = if is_kept old new n then Some (moved old new n) else None

-- a comment with a name and its number, as in a file of names
abbrev pub named_line : List ℕ → Option ℕ → List ℕ
named_line name None = []
named_line name (Some n) = line_of (codes "# " ++ name ++ codes " = " ++ decimal n)

unfoldable pub name_line : Geometry → Geometry → Name → List ℕ
name_line old new n = named_line (string_bytes n.text) (place_of old new n.number)

-- the names whose numbers the other image has
abbrev pub names_text : Geometry → Geometry → List Name → List ℕ
names_text old new names = flat_map (name_line old new) names

abbrev pub grown_names : Geometry → Sizes → List Name → List ℕ
grown_names old sizes names = names_text old (grown_geometry old sizes) names

-- the text of a renumbered description was written, then the names; or the fault says why not
abbrev pub TellsNamed : Description → Sizes → List Name → Written → Written → Result (Unit {0}) Fault → Type 0
TellsNamed d sizes names output output_left (Ok a) = (between : Written) × TellsGrown d sizes output between (Ok a)
    × Wrote between output_left (grown_names d.geometry sizes names)
TellsNamed d sizes names output output_left (Err fault.CannotWriteOutput) =
    TellsGrown d sizes output output_left (Err fault.CannotWriteOutput)
    ⊎ ((between : Written) × TellsGrown d sizes output between (Ok tt)
    × WroteFront between output_left (grown_names d.geometry sizes names))
TellsNamed d sizes names output output_left (Err why) = TellsGrown d sizes output output_left (Err why)

-- the same about what is saved
abbrev pub TellsNamedState : Sizes → List Name → SavedState → Written → Written → Result (Unit {0}) Fault → Type 0
TellsNamedState sizes names s output output_left (Ok a) = (between : Written)
    × TellsGrownState sizes s output between (Ok a)
    × Wrote between output_left (grown_names s.plan.geometry sizes names)
TellsNamedState sizes names s output output_left (Err fault.CannotWriteOutput) =
    TellsGrownState sizes s output output_left (Err fault.CannotWriteOutput)
    ⊎ ((between : Written) × TellsGrownState sizes s output between (Ok tt)
    × WroteFront between output_left (grown_names s.plan.geometry sizes names))
TellsNamedState sizes names s output output_left (Err why) = TellsGrownState sizes s output output_left (Err why)

abbrev pub DescribesNamed : {D : Type 0} → (D → Disk) → Sizes → List Name → D → D → Written → Written →
    Result (Unit {0}) Fault → Type 0
DescribesNamed disk sizes names device back output output_left outcome =
    TellsImage disk device back output output_left (λ s o. TellsNamedState sizes names s output output_left o) outcome
