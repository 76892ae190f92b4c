use Rattle.std.proofs.Common.{◌≡◌, length}
use Rattle.runs.proofs.Turning.{HasRead}
use Rattle.runs.proofs.running.run_turns.Given as goal

abbrev pub invariant-loop-reader : goal.invariant-loop-reader
invariant-loop-reader g l = record {
  sized : length l.piece ≡ 4096;
  read : HasRead g.D.Device.disk g.S.ObjectStore.view g.S.Frames.parts g.O.Observer.sees g.met.D.Device.only_now l.fn.kernel l.kernel
      l.fn.observer l.observer l.line
      (g.R.Script.unread l.fn.reader) (g.R.Script.unread l.reader) (g.W.Output.written l.fn.writer) (g.W.Output.written l.writer);
  none_failed : g.R.Script.failures l.reader ≡ g.R.Script.failures l.fn.reader;
}

abbrev pub decreases-loop-reader : goal.decreases-loop-reader
decreases-loop-reader g l = g.R.Script.reads_left l.reader
