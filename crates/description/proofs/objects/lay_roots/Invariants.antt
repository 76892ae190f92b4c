use Rattle.description.specs.Laid.{OfRoot}
use Rattle.description.proofs.LaidFrames.{IsLaying}
use Rattle.description.proofs.objects.lay_roots.Given as goal

abbrev pub invariant-loop-process : goal.invariant-loop-process
invariant-loop-process l = IsLaying OfRoot l.processes l.initial.world l.world l.process-index
