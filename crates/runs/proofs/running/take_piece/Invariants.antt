use Rattle.std.proofs.Common.{length}
use Rattle.runs.proofs.Turning.{GoesTo}
use Rattle.runs.proofs.running.take_piece.Given as goal

abbrev pub invariant-loop-end : goal.invariant-loop-end
invariant-loop-end g l =
    GoesTo g.D.Device.disk g.S.ObjectStore.view g.S.Frames.parts g.O.Observer.sees g.met.D.Device.only_now l.fn.kernel l.fn.observer
    l.fn.line
    (g.W.Output.written l.fn.writer)
    l.piece l.rest l.kernel l.observer l.line (g.W.Output.written l.writer)

abbrev pub decreases-loop-end : goal.decreases-loop-end
decreases-loop-end g l = length l.rest
