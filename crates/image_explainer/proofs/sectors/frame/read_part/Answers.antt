use Rattle.image_explainer.proofs.Names.{ℕ, List, subst, Geometry, agrees_is, Plan, shape_bytes, BreaksFrame}
use Rattle.image_explainer.proofs.Frames.{frame_read}
use Rattle.image_explainer.proofs.sectors.frame.read_part.Goals as goal

pub returns-clause-found : goal.returns-clause-found
returns-clause-found g c =
    let old = (g.D.Device.disk c.args.device.now).seen in
    let new = (g.D.Device.disk c.read_sectors.new.device).seen in
    let p : Plan = c.args.plan.now in
    subst (λ (b : List ℕ). BreaksFrame p.geometry c.args.header.age c.args.number b c.part_in.result)
    (frame_read old new p c.args.header.generation c.args.directory.now c.args.number c.frame_sector-at.result c.shape-shape.result
    c.read_sectors.new.into (agrees_is new old c.read_sectors.ensures.reads.seen) c.frame_sector-at.ensures.value
    c.shape-shape.ensures.value
    c.in_ok-read_sectors.ensures.bytes)
    (subst (λ (x : Geometry). BreaksFrame x c.args.header.age c.args.number (shape_bytes c.shape-shape.result c.read_sectors.new.into)
    c.part_in.result) c.geometry.ensures.value c.part_in.ensures)
