use Rattle.address_space.proofs.Known.{HasDescended}
use Rattle.address_space.proofs.walking.descend.Given as goal

abbrev pub invariant-loop-object : goal.invariant-loop-object
invariant-loop-object g l = HasDescended g.F.Frames.parts g.F.Frames.ContinuesTo l.fn.index l.fn.tree l.fn.frames l.at l.frames

abbrev pub decreases-loop-object : goal.decreases-loop-object
decreases-loop-object g l = l.at.height
