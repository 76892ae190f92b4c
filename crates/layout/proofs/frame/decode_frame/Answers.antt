use Rattle.layout.proofs.Names.{rules, ℕ, List, IfOk-weaker, IfErr-weaker, Frame, Geometry, BadImage, BadFrame, node_frame_bytes, IsFrameOf, IsNodeFrame}
use Rattle.std.proofs.Common.{◌≡◌}
use Rattle.layout.proofs.Keepables.{frame_of_node, node_of_frame}
use Rattle.layout.proofs.frame.decode_frame.Goals as goal

pub returns-then-number-geometry-clause-found : goal.returns-then-number-geometry-clause-found
returns-then-number-geometry-clause-found c = search (rules, IfOk-weaker, frame_of_node)

pub returns-then-number-geometry-clause-refused : goal.returns-then-number-geometry-clause-refused
returns-then-number-geometry-clause-refused c =
    let g : Geometry = c.args.geometry in
    let age : ℕ = c.args.age in
    let bytes : List ℕ = c.args.bytes.now in
    IfErr-weaker c.decode_node_frame.result
    (λ (e : BadImage). (e ≡ BadFrame) × ((f : Frame) → IsNodeFrame g age f → bytes ≡ node_frame_bytes f → ⊥))
    (λ (e : BadImage). (e ≡ BadFrame) × ((f : Frame) → IsFrameOf g age c.args.number bytes f → ⊥))
    (λ e held. (
      held.0,
      λ f is. let node = node_of_frame g age c.args.number bytes f c.if-number-geometry.true is in
          held.1 f node.0 node.1,
    ))
    c.decode_node_frame.ensures.refused
