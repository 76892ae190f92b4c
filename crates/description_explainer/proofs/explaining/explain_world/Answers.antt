use Rattle.description.proofs.Worlds.{world_laid}
use Rattle.description_explainer.proofs.explaining.explain_world.Goals as goal

pub explain_frames-requires-clause-laid : goal.explain_frames-requires-clause-laid
explain_frames-requires-clause-laid c =
    let known = c.in-Ok.ensures in
    let laid = world_laid c.args.description.now c.in-Ok.world known.named known.described known.keepable known.headers known.contents in
    rw c.new-frames.ensures laid
