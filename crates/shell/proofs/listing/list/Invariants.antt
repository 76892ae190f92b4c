use Rattle.shell.proofs.Listed.{ListedTo}
use Rattle.shell.proofs.listing.list.Given as goal

abbrev pub invariant-loop-number : goal.invariant-loop-number
invariant-loop-number g l = ListedTo g.D.Device.disk g.S.ObjectStore.view g.S.Frames.parts l.number l.fn.kernel l.kernel
    (g.W.Output.written l.fn.writer) (g.W.Output.written l.writer)
