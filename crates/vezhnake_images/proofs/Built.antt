-- Why no image is built, and what a built one holds.
use Rattle.vezhnake_images.proofs.Names.{ℕ, List, Some, true, refl, subst, sym, ap, arith, drop, length, take, drop-append_seam, take-append_seam, AreSectors}
use Rattle.vezhnake_images.proofs.Names.{description_once, IsSame, IsDescription, Refuses, TellsNoSize, plan_for, Description}
use Rattle.vezhnake_images.proofs.Names.{BuildFault, limits_broken, Members, parse_document, IsBuiltOn, IsImageOf, IsRead, PutsImage}
use Rattle.vezhnake_images.proofs.Names.{RefusesTable, RefusesText, ImageDevice, image_disk, built_by}
use Rattle.std.proofs.Common.{◌≡◌, ◌≤◌, ◌<◌, ◌*◌, ◌++◌}
use Rattle.description.specs.declared.fault.BuildFault.TheVariants as build

-- if a table can't be read, or is outside the limits, its status says so
sizeless : (table : Members) (fault : BuildFault) → TellsNoSize table fault → RefusesTable table (built_by fault)
sizeless table build.Shape told = (omega arith, 0, told)
sizeless table build.Limits told = (omega arith, 0, (told.0, told.1, limits_broken told.0 0 told.2))
sizeless table build.NoMemory told = tt
sizeless table build.Number told = absurd told
sizeless table build.Field told = absurd told
sizeless table build.Target told = absurd told
sizeless table build.Owner told = absurd told
sizeless table build.Small told = absurd told
sizeless table build.Failed told = absurd told

-- all descriptions of a table have the same plan
same_plan : (table : Members) (d e : Description) → IsDescription table d → IsDescription table e → plan_for d ≡ plan_for e
same_plan table d e first second =
    let same : IsSame d e = description_once table d e first second in
    rw (same.layout, same.geometry, same.ranges) refl

-- if a device of the right size didn't fail, the status says why its image was refused
pub unbuilt : (table : Members) (b : Description) (old new : ImageDevice) (fault : BuildFault) → IsDescription table b
    → (image_disk old).sectors ≡ (plan_for b).total → Refuses table (image_disk old).sectors fault
    → (fault ≡ build.Failed → (image_disk old).failures < (image_disk new).failures) → RefusesTable table (built_by fault)
unbuilt table b old new build.Shape is size refuses works = (omega arith, (image_disk old).sectors, refuses)
unbuilt table b old new build.Limits is size refuses works = (omega arith, (image_disk old).sectors, refuses)
unbuilt table b old new build.Number is size refuses works = (omega arith, (image_disk old).sectors, refuses)
unbuilt table b old new build.Field is size refuses works = (omega arith, (image_disk old).sectors, refuses)
unbuilt table b old new build.Target is size refuses works = (omega arith, (image_disk old).sectors, refuses)
unbuilt table b old new build.Owner is size refuses works = (omega arith, (image_disk old).sectors, refuses)
unbuilt table b old new build.Small is size refuses works =
    absurd (refuses.2.broken (subst (λ (n : ℕ). n ≤ (image_disk old).sectors)
    (sym (ap (λ p. p.total) (same_plan table refuses.0 b refuses.1 is)))
    (subst (λ (n : ℕ). (plan_for b).total ≤ n) (sym size) (omega arith))))
unbuilt table b old new build.Failed is size refuses works =
    let rises = works refl in
    let none = new.file.sound in
    absurd (omega (arith, rises, none))
unbuilt table b old new build.NoMemory is size refuses works = tt

-- if the table of a text can't be read as a description, the text's status says so
pub unread : (text : List ℕ) (table : Members) (fault : BuildFault) → parse_document text ≡ Some table → TellsNoSize table fault
    → RefusesText text (built_by fault)
unread text table build.Shape is told = (table, is, sizeless table build.Shape told)
unread text table build.Limits is told = (table, is, sizeless table build.Limits told)
unread text table build.NoMemory is told = tt
unread text table build.Number is told = absurd told
unread text table build.Field is told = absurd told
unread text table build.Target is told = absurd told
unread text table build.Owner is told = absurd told
unread text table build.Small is told = absurd told
unread text table build.Failed is told = absurd told

pub in_bytes : (sectors total : ℕ) → sectors ≡ total → sectors * 512 ≡ 512 * total
in_bytes sectors total same = omega (arith, same)

-- if the sectors of a built image were copied to the front of the buffer, the buffer has the image
pub image_put : (text old part : List ℕ) (d : Description) (device : ImageDevice) → (read : IsRead text d)
    → ((table : Members) → IsDescription table d → IsBuiltOn table (plan_for d).total device) → length part ≡ 512 * (plan_for d).total
    → AreSectors (image_disk device).seen 0 part → length part ≤ length old →
    PutsImage text old (part ++ drop (length part) old) (length part) true
image_put text old part d device read built size are within =
    let front : part ≡ take (length part) (part ++ drop (length part) old) = sym (take-append_seam part (drop (length part) old)) in
    let image : IsImageOf text part = record {
      description = d;
      table = read.0;
      read = read.1;
      described = read.2;
      device = device;
      built = built read.0 read.2;
      size = size;
      bytes_are = are;
    } in
    (subst (λ (bytes : List ℕ). IsImageOf text bytes) front image, within, drop-append_seam part (drop (length part) old))
