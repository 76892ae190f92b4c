use Rattle.image_drawer.proofs.Names.{take, flat_map, Wrote, arrow_line}
use Rattle.image_drawer.proofs.drawing.draw_arrows.Given as goal

abbrev pub invariant-loop-part : goal.invariant-loop-part
invariant-loop-part g l = Wrote (g.W.Output.written l.fn.writer) (g.W.Output.written l.writer)
    (flat_map (λ p. flat_map arrow_line (g.P.Part.arrows_of p)) (take l.part-index l.parts))
