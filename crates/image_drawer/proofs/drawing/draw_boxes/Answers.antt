use Rattle.image_drawer.proofs.Names.{refl, err_from_is_err_and}
use Rattle.image_drawer.proofs.Texts.{item_fails}
use Rattle.image_drawer.proofs.drawing.draw_boxes.Goals as goal

pub returns-in_err-draw_box : goal.returns-in_err-draw_box
returns-in_err-draw_box g c =
    let p = err_from_is_err_and c.from_residual.result c.from_residual.ensures.1 in
    rw (p.1, p.2) (item_fails g.P.Part.box_of c.args.parts.now _ _ _ _ c.loop-part.part-index _ _ refl c.loop-part-test.true c.part-item.is
    c.loop-part.invariant c.in_err-draw_box.ensures)
