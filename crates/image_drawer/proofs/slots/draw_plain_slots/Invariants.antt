use Rattle.image_drawer.proofs.Names.{take, unwrap_or, flat_map, Wrote, Void, plain_line}
use Rattle.image_drawer.proofs.slots.draw_plain_slots.Given as goal

abbrev pub invariant-loop-slot : goal.invariant-loop-slot
invariant-loop-slot g l = Wrote (g.W.Output.written l.fn.writer) (g.W.Output.written l.writer)
    (flat_map (λ s. plain_line l.name s.index (unwrap_or s.capability Void)) (take l.slot-index l.slots))
