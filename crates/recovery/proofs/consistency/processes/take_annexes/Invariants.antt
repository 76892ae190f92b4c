use Rattle.recovery.proofs.Names.{length, frames_of, AreTaken}
use Rattle.std.proofs.Common.{◌≡◌}
use Rattle.recovery.proofs.consistency.processes.take_annexes.Given as goal

abbrev pub invariant-loop-root : goal.invariant-loop-root
invariant-loop-root g l = record {
  size : length l.taken ≡ length l.initial.taken;
  taken : AreTaken (frames_of (g.F.Frames.parts l.store)) l.root l.taken;
}
