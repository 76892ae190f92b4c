use Rattle.image_drawer.proofs.Names.{err_from_is_err_and, flat_map, owner_line}
use Rattle.image_drawer.proofs.Texts.{flat_map-flat_map, all_written, item_fails}
use Rattle.image_drawer.proofs.drawing.draw_owners.Goals as goal

pub returns-in_err-draw_owner : goal.returns-in_err-draw_owner
returns-in_err-draw_owner g c =
    let p = err_from_is_err_and c.from_residual.result c.from_residual.ensures.1 in
    rw (p.1, p.2) (item_fails (λ p. flat_map (owner_line c.args.objects.now) (g.P.Part.owner_of p)) c.args.parts.now _ _ _ _
    c.loop-part.part-index _ _
    (flat_map-flat_map (owner_line c.args.objects.now) g.P.Part.owner_of c.args.parts.now) c.loop-part-test.true c.part-item.is
    c.loop-part.invariant c.in_err-draw_owner.ensures)

pub returns : goal.returns
returns g c =
    all_written (λ p. flat_map (owner_line c.args.objects.now) (g.P.Part.owner_of p)) c.args.parts.now _ _ c.loop-part.part-index _
    (flat_map-flat_map (owner_line c.args.objects.now) g.P.Part.owner_of c.args.parts.now) c.loop-part-test.false
    c.loop-part.invariant
