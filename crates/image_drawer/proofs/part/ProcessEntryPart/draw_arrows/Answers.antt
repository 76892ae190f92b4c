use Rattle.image_drawer.proofs.Names.{flat_map-append, err_from_is_err_and, Void, text_fails, arrow_line, arrow_of, arrows_at, unwrap_or}
use Rattle.image_drawer.specs.declared.arrow.Place.TheVariants as place
use Rattle.image_drawer.proofs.Texts.{two_written}
use Rattle.image_drawer.proofs.part.ProcessEntryPart.draw_arrows.Goals as goal

pub returns-in_err-draw_arrow : goal.returns-in_err-draw_arrow
returns-in_err-draw_arrow g c =
    let p = err_from_is_err_and c.from_residual.result c.from_residual.ensures.1 in
    rw (p.1, p.2) (text_fails _ _ _ _ _ _
    (flat_map-append arrow_line (arrow_of c.args.self.now.root place.Space (unwrap_or c.args.self.now.space Void))
    (arrows_at c.args.self.now.root place.Register c.args.self.now.registers.items))
    (rw c.held.ensures at c.in_err-draw_arrow.ensures))

pub returns : goal.returns
returns g c =
    two_written _ _ _ _ _ _ _
    (flat_map-append arrow_line (arrow_of c.args.self.now.root place.Space (unwrap_or c.args.self.now.space Void))
    (arrows_at c.args.self.now.root place.Register c.args.self.now.registers.items))
    (rw c.held.ensures at c.in_ok-draw_arrow.ensures) (rw c.as_slice.ensures.value at c.draw_slots.ensures)
