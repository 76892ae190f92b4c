use Rattle.image_drawer.proofs.Names.{refl, unwrap_or, err_from_is_err_and, Void, plain_line}
use Rattle.image_drawer.proofs.Texts.{place_fails}
use Rattle.image_drawer.proofs.slots.draw_plain_slots.Goals as goal

pub returns-in_err-draw_plain : goal.returns-in_err-draw_plain
returns-in_err-draw_plain g c =
    let p = err_from_is_err_and c.from_residual.result c.from_residual.ensures.1 in
    rw (p.1, p.2) (place_fails (λ s. plain_line c.args.name.now s.index (unwrap_or s.capability Void)) c.args.slots.now _ _ _ _
    c.loop-slot.slot-index _ _ refl
    c.loop-slot-test.true
    c.loop-slot.invariant (rw c.held.ensures at c.in_err-draw_plain.ensures))
