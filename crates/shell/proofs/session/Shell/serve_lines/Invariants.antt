use Rattle.std.proofs.Common.{◌≡◌, ◌+◌, [], length}
use Rattle.runs.specs.Reader.{failed_reads, left_to_read}
use Rattle.shell.specs.Lines.{ahead_of}
use Rattle.shell.specs.Sessions.{session_at}
use Rattle.shell.proofs.Sessions.{SoFar}
use Rattle.shell.proofs.session.Shell.serve_lines.Given as goal

abbrev pub invariant-loop-line : goal.invariant-loop-line
invariant-loop-line g l = record {
  so_far : SoFar g.D.Device.disk g.S.ObjectStore.view g.S.Frames.parts (g.Q.Inspector.inspects l.fn.inspector)
      l.fn.self.topics.now l.fn.self.is_prompting
      (ahead_of g.R.RawReader.rest l.fn.lines) (ahead_of g.R.RawReader.rest l.lines)
      (session_at g.V.Output.written l.fn.self l.fn.kernel (g.W.Output.written l.fn.writer))
      (session_at g.V.Output.written l.self l.kernel (g.W.Output.written l.writer));
  topics : l.self.topics ≡ l.fn.self.topics;
  prompts : l.self.is_prompting ≡ l.fn.self.is_prompting;
  none_waits : g.W.Output.waiting l.writer ≡ [];
  none_failed : failed_reads l.lines.reader ≡ failed_reads l.fn.lines.reader;
}

abbrev pub decreases-loop-line : goal.decreases-loop-line
decreases-loop-line g l = left_to_read l.lines.reader + length l.lines.line.items
