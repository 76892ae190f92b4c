use Rattle.description.specs.Laid.{OfAnnex}
use Rattle.description.proofs.LaidFrames.{IsLaying}
use Rattle.description.proofs.objects.lay_annexes.Given as goal

abbrev pub invariant-loop-process : goal.invariant-loop-process
invariant-loop-process l = IsLaying OfAnnex l.processes l.initial.world l.world l.process-index
