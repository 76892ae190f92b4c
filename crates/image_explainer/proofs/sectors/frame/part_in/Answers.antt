use Rattle.image_explainer.proofs.Names.{ℕ, List, subst, BreaksFrame}
use Rattle.image_explainer.proofs.sectors.frame.part_in.Goals as goal

pub returns-then-number-geometry : goal.returns-then-number-geometry
returns-then-number-geometry c =
    subst (λ (b : List ℕ). BreaksFrame c.args.geometry c.args.age c.args.number b c.frame_part.result) c.unpack_node.ensures
    c.frame_part.ensures
