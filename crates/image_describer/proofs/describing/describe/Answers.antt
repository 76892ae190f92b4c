use Rattle.image_describer.proofs.Names.{world_at, frames_of}
use Rattle.std.proofs.Common.{◌∙◌}
use Rattle.image_describer.proofs.Assembled.{brief, described}
use Rattle.image_describer.proofs.describing.describe.Goals as goal

pub returns-in-Ok-clause-describes : goal.returns-in-Ok-clause-describes
returns-in-Ok-clause-describes g c =
    let p = g.F.Frames.parts c.args.store.now in
    let entry_of = c.in-Ok.ensures.entry_of in
    described p.geometry (world_at c.args.age (frames_of p)) c.requires.sound.sound c.tell_objects.new.description
    (c.in-Ok.ensures.same.geometry ∙ c.geometry.ensures.geometry) c.in-Ok.ensures.same.age entry_of.banks entry_of.processes entry_of.nodes
    entry_of.pages

pub returns-in-Ok-clause-brief : goal.returns-in-Ok-clause-brief
returns-in-Ok-clause-brief g c =
    let p = g.F.Frames.parts c.args.store.now in
    let entry_of = c.in-Ok.ensures.entry_of in
    brief p.geometry (world_at c.args.age (frames_of p)) c.requires.sound.sound c.tell_objects.new.description
    (c.in-Ok.ensures.same.geometry ∙ c.geometry.ensures.geometry) c.in-Ok.ensures.same.age entry_of.banks entry_of.processes entry_of.nodes
    entry_of.pages
