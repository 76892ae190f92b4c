use Rattle.image_drawer.proofs.Names.{take, flat_map, Wrote}
use Rattle.image_drawer.proofs.drawing.draw_boxes.Given as goal

abbrev pub invariant-loop-part : goal.invariant-loop-part
invariant-loop-part g l = Wrote (g.W.Output.written l.fn.writer) (g.W.Output.written l.writer)
    (flat_map g.P.Part.box_of (take l.part-index l.parts))
