use Rattle.image_drawer.proofs.Names.{take, unwrap_or, flat_map, Wrote, Void, arrow_line, arrow_of, place_in}
use Rattle.image_drawer.proofs.slots.draw_slots.Given as goal

abbrev pub invariant-loop-slot : goal.invariant-loop-slot
invariant-loop-slot g l = Wrote (g.W.Output.written l.fn.writer) (g.W.Output.written l.writer)
    (flat_map (λ s. flat_map arrow_line (arrow_of l.holder (place_in l.is_node s.index) (unwrap_or s.capability Void)))
    (take l.slot-index l.slots))
