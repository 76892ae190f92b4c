-- The lines that `info` prints.
use Rattle.queries.specs.Names.{Written, Wrote, ℕ, List, [], codes, decimal, map, Result, Ok, Err, count_by, flat_map}
use Rattle.queries.specs.Names.{ObjectHeader, Role, Saved, role_number, role_of, line_of, spaced, World, Disk}
use Rattle.queries.specs.Names.{HomeRange, SavedState, Plan, version_number, Checkpoint, kept_of, saved_of, WroteFront}
use Rattle.queries.specs.Names.{Fault, Format, number_line, number_object}
use Rattle.std.specs.Prelude.{◌==◌, ◌∷◌, ◌++◌}
use Rattle.json_lines.specs.declared.format.Format.TheVariants as format
use Rattle.json_lines.specs.declared.key.Key.TheVariants as key
use Rattle.json_lines.specs.declared.object.Member.TheVariants as member
use Rattle.model.specs.declared.object.Role.TheVariants as role
use Rattle.jobs.specs.declared.fault.Fault.TheVariants as fault
use Rattle.queries.specs.Images.{TellsImage}
use Rattle.queries.specs.declared.info.InfoLine.{InfoLine}
use Rattle.queries.specs.declared.info.InfoLine.TheVariants as line

-- how many objects of a world have a role
abbrev pub objects_with : Role → World → ℕ
objects_with r w = count_by (λ o. role_number (role_of o.content) == role_number r) w.objects

-- a line: a name and its numbers
abbrev pub info_line : Format → InfoLine → List ℕ
info_line f (line.Layout n) = number_line f (codes "layout") n
info_line f (line.Nodes n) = number_line f (codes "nodes") n
info_line f (line.Pages n) = number_line f (codes "pages") n
info_line f (line.Log n) = number_line f (codes "log") n
info_line f (line.Sectors n) = number_line f (codes "sectors") n
info_line f (line.Generation n) = number_line f (codes "generation") n
info_line f (line.Age n) = number_line f (codes "age") n
info_line f (line.Entries n) = number_line f (codes "entries") n
info_line f (line.Free n) = number_line f (codes "free") n
info_line f (line.PageObjects n) = number_line f (codes "page") n
info_line f (line.NodeObjects n) = number_line f (codes "node") n
info_line f (line.Processes n) = number_line f (codes "process") n
info_line f (line.Banks n) = number_line f (codes "bank") n
info_line format.Text (line.Range first count) = spaced (codes "range" ∷ decimal first ∷ decimal count ∷ [])
info_line format.Json (line.Range first count) = number_object (codes "range") first
    (member.Number key.Count count ∷ [])

abbrev pub info_text : Format → List InfoLine → List ℕ
info_text f lines = flat_map (λ l. line_of (info_line f l)) lines

abbrev pub range_line : HomeRange → InfoLine
range_line r = line.Range r.first r.count

-- the lines about an image with this plan and checkpoint; `count` gives the number of objects of each role
abbrev pub lines_with : Plan → Checkpoint → (Role → ℕ) → List InfoLine
lines_with p saved count =
    ((line.Layout (version_number p.version) ∷ line.Nodes p.geometry.nodes ∷ line.Pages p.geometry.pages ∷ line.Log
    p.geometry.log ∷ [])
    ++ map range_line p.ranges)
    ++ line.Sectors p.total ∷ line.Generation saved.generation ∷ line.Age saved.age ∷ line.Entries saved.entries
    ∷ line.Free (count role.Free) ∷ line.PageObjects (count role.Page) ∷ line.NodeObjects (count role.Node)
    ∷ line.Processes (count role.Root) ∷ line.Banks (count role.Bank) ∷ []

-- how many headers have this role
abbrev pub headers_with : Role → List ObjectHeader → ℕ
headers_with r hs = count_by (λ h. role_number h.role == role_number r) hs

-- The lines about an image with this plan and saved state: the superblock, the home ranges, the checkpoint, and how
-- many objects of each kind there are. A process counts once, by its root.
abbrev pub info_lines : Plan → Saved → List InfoLine
info_lines p saved = lines_with p
    (record { generation = saved.generation; age = saved.world.age; entries = saved.entries })
    (λ r. objects_with r saved.world)

-- the lines about the saved state were written; or they couldn't be written whole
abbrev pub TellsInfo : Format → SavedState → Written → Written → Result (Unit {0}) Fault → Type 0
TellsInfo f s output output_left (Ok a) = Wrote output output_left
    (info_text f (info_lines s.plan (saved_of (kept_of s))))
TellsInfo f s output output_left (Err fault.CannotWriteOutput) = WroteFront output output_left
    (info_text f (info_lines s.plan (saved_of (kept_of s))))
TellsInfo f s output output_left (Err _) = ⊥

-- what `info` does: `TellsInfo` for the device's saved state; or the device wasn't opened, or memory ran out
abbrev pub InspectsImage : {D : Type 0} → Format → (D → Disk) → D → D → Written → Written →
    Result (Unit {0}) Fault → Type 0
InspectsImage f disk device back output output_left outcome = TellsImage disk device back output output_left
    (λ s o. TellsInfo f s output output_left o) outcome
