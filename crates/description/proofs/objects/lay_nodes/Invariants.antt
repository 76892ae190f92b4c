use Rattle.description.specs.Laid.{OfNode}
use Rattle.description.proofs.LaidFrames.{IsLaying}
use Rattle.description.proofs.objects.lay_nodes.Given as goal

abbrev pub invariant-loop-node : goal.invariant-loop-node
invariant-loop-node l = IsLaying OfNode l.nodes l.initial.world l.world l.node-index
