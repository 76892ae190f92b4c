use Rattle.std.proofs.Common.{◌≡◌, ◌+◌, ◌≤◌, [], length}
use Rattle.runs.specs.Reader.{failed_reads, left_to_read, read_from}
use Rattle.shell.specs.Lines.{Takes, lines_ahead}
use Rattle.shell.proofs.typed_lines.read_line.Given as goal

abbrev pub invariant-loop-line : goal.invariant-loop-line
invariant-loop-line g l = record {
  same : Takes (lines_ahead l.fn.line.items (g.R.RawReader.rest (read_from l.fn.reader)))
      (lines_ahead l.line.items (g.R.RawReader.rest (read_from l.reader))) [];
  none_failed : failed_reads l.reader ≡ failed_reads l.fn.reader;
  fewer : left_to_read l.reader + length l.line.items ≤ left_to_read l.fn.reader + length l.fn.line.items;
}

abbrev pub decreases-loop-line : goal.decreases-loop-line
decreases-loop-line g l = left_to_read l.reader
