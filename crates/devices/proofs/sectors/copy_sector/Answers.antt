use Rattle.devices.proofs.Names.{rules, arith, image_of}
use Rattle.devices.proofs.Patches.{wrote_here, patches_one, part_is, part_size}
use Rattle.devices.proofs.sectors.copy_sector.Goals as goal

pub overflow_mul-start : goal.overflow_mul-start
overflow_mul-start c =
    let inside = c.requires.inside c.in-Wrote.sector (wrote_here c.args.action.now c.in-Wrote.sector _ c.in-Wrote.is) in
    search rules

pub overflow_add-start : goal.overflow_add-start
overflow_add-start c =
    let inside = c.requires.inside c.in-Wrote.sector (wrote_here c.args.action.now c.in-Wrote.sector _ c.in-Wrote.is) in
    search rules

pub slice_bounds-put-end : goal.slice_bounds-put-end
slice_bounds-put-end c =
    let inside = c.requires.inside c.in-Wrote.sector (wrote_here c.args.action.now c.in-Wrote.sector _ c.in-Wrote.is) in
    search rules

pub returns-in-Wrote-clause-patched : goal.returns-in-Wrote-clause-patched
returns-in-Wrote-clause-patched c =
    let sector = c.in-Wrote.sector in
    let inside = c.requires.inside sector (wrote_here c.args.action.now sector _ c.in-Wrote.is) in
    patches_one c.args.action.now sector _ _ (image_of c.args.from.now) _ _ c.in-Wrote.is
    (part_size c.args.from.now sector _ _ (omega arith) (omega arith) (omega (arith, inside)))
    (part_is c.args.from.now sector _ _ (omega arith) (omega arith)) c.put.ensures.written c.put.ensures.elsewhere
