use Rattle.image_explainer.proofs.Names.{ap, subst, Plan, Geometry, BreaksDirectory, IsFirstEntry, directory_sector}
use Rattle.std.proofs.Common.{◌∙◌}
use Rattle.image_explainer.proofs.Directories.{entry_fault}
use Rattle.image_explainer.proofs.sectors.directory.find_plain.Goals as goal

pub returns-clause-found : goal.returns-clause-found
returns-clause-found g c =
    let disk = g.D.Device.disk c.args.device.now in
    let es = c.read_plain.new.into in
    let part = c.bad_entry.result in
    entry_fault disk.sectors disk.seen c.args.plan.now c.args.header c.requires.plan c.requires.header c.requires.bad es
    c.directory_sector.result part c.in_ok-read_plain.ensures.found
    (c.directory_sector.ensures.value ∙ ap (λ (q : Plan). directory_sector q c.args.header.header.generation) c.new.ensures)
    c.in_ok-read_plain.ensures.sums
    (subst (λ (x : Geometry). BreaksDirectory x es part) c.geometry.ensures.value c.bad_entry.ensures.breaks)
    (subst (λ (x : Geometry). IsFirstEntry x es part) c.geometry.ensures.value c.bad_entry.ensures.first)
