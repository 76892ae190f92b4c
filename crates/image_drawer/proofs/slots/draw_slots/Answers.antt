use Rattle.image_drawer.proofs.Names.{err_from_is_err_and, flat_map, Void, arrow_line, arrow_of, place_in, unwrap_or}
use Rattle.image_drawer.proofs.Texts.{flat_map-flat_map, all_written, place_fails}
use Rattle.image_drawer.proofs.slots.draw_slots.Goals as goal

pub returns-in_err-draw_arrow : goal.returns-in_err-draw_arrow
returns-in_err-draw_arrow g c =
    let p = err_from_is_err_and c.from_residual.result c.from_residual.ensures.1 in
    rw (p.1, p.2) (place_fails (λ s. flat_map arrow_line (arrow_of c.args.holder (place_in c.args.is_node s.index)
    (unwrap_or s.capability Void)))
    c.args.slots.now _ _ _ _ c.loop-slot.slot-index _ _
    (flat_map-flat_map arrow_line (λ s. arrow_of c.args.holder (place_in c.args.is_node s.index) (unwrap_or s.capability Void))
    c.args.slots.now)
    c.loop-slot-test.true c.loop-slot.invariant (rw (c.held.ensures, c.place_in-place.ensures) at c.in_err-draw_arrow.ensures))

pub returns : goal.returns
returns g c =
    all_written (λ s. flat_map arrow_line (arrow_of c.args.holder (place_in c.args.is_node s.index) (unwrap_or s.capability Void)))
    c.args.slots.now _ _
    c.loop-slot.slot-index _
    (flat_map-flat_map arrow_line (λ s. arrow_of c.args.holder (place_in c.args.is_node s.index) (unwrap_or s.capability Void))
    c.args.slots.now)
    c.loop-slot-test.false c.loop-slot.invariant
