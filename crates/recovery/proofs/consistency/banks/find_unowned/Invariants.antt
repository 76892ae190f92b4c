use Rattle.recovery.proofs.Names.{AllBefore, IsOwnedAt, frames_of}
use Rattle.recovery.proofs.consistency.banks.find_unowned.Given as goal

abbrev pub invariant-loop-number : goal.invariant-loop-number
invariant-loop-number g l = AllBefore (IsOwnedAt (frames_of (g.F.Frames.parts l.store))) l.number
