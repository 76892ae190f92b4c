use Rattle.image_drawer.proofs.Names.{take, flat_map, Wrote, owner_line}
use Rattle.image_drawer.proofs.drawing.draw_owners.Given as goal

abbrev pub invariant-loop-part : goal.invariant-loop-part
invariant-loop-part g l = Wrote (g.W.Output.written l.fn.writer) (g.W.Output.written l.writer)
    (flat_map (λ p. flat_map (owner_line l.objects) (g.P.Part.owner_of p)) (take l.part-index l.parts))
